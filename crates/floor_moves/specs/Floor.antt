-- The shop floor by numbers: substrates, carriers and modules at a moment (after SEMI E87 and E90; this tool's profile, carriers,
-- substrates and moves). Each column is a map from the number of an object. What it gives of a number that is none counts for
-- nothing.
use Rattle.std.specs.Prelude.{ℕ, zero, suc, ◌==◌, Bool, true, false, not, ◌&&◌, ◌||◌, if◌then◌else◌, List, [], ◌∷◌, find, map, Option, Some, None}

-- a location: a slot of a number at the port of a number, the aligner, the robot's arm, the chamber of a number, from 1 on
pub data Loc : Type 0 where
  slot : ℕ → ℕ → Loc
  aligner : Loc
  arm : Loc
  chamber : ℕ → Loc

-- they are the same
abbrev pub is_same : Loc → Loc → Bool
is_same (slot p k) (slot q l) = (p == q) && (k == l)
is_same aligner aligner = true
is_same arm arm = true
is_same (chamber c) (chamber d) = c == d
is_same _ _ = false

-- what a command asks for: a substrate is picked from a location, placed at one, aligned, or processed
pub data Task : Type 0 where
  pick : ℕ → Loc → Task
  place : ℕ → Loc → Task
  align : ℕ → Task
  process : ℕ → Task

-- the substrate that a task names
abbrev pub named : Task → ℕ
named (pick n from) = n
named (place n to) = n
named (align n) = n
named (process n) = n

-- a command of a module, under its number
pub record Command : Type 0 where
  pub number : ℕ
  pub task : Task

-- a module is Idle, Busy with one command, or Down
pub data Module : Type 0 where
  idle : Module
  busy : Command → Module
  down : Module

-- What process jobs say of substrates and carriers (after SEMI E40). Of a substrate: it is in a job; its job is PROCESSING,
-- STOPPING, ABORTING or PROCESS COMPLETE; the route of the recipe of its job, a list of steps, each with its chambers. Of a
-- carrier: a job names it; it is marked stopped.
pub record JobView : Type 0 where
  pub is_member : ℕ → Bool
  pub may_start : ℕ → Bool
  pub is_stopping : ℕ → Bool
  pub is_aborting : ℕ → Bool
  pub is_complete : ℕ → Bool
  pub route_of : ℕ → List (List ℕ)
  pub names_carrier : ℕ → Bool
  pub is_marked : ℕ → Bool

-- the floor at a moment
pub record Floor : Type 0 where
  -- the substrates that are kept, in the order of their registration, and the number that the next one gets
  pub substrates : List ℕ
  pub next_substrate : ℕ
  -- of a substrate: its carrier, and the port and the number of its own slot
  pub carrier_of : ℕ → ℕ
  pub port_of : ℕ → ℕ
  pub slot_of : ℕ → ℕ
  -- its place, none where it is Removed; the numbers of its states in tables 12 and 13; whether it is aligned; and how many steps of
  -- its route are done
  pub place_of : ℕ → Option Loc
  pub transport : ℕ → ℕ
  pub processing : ℕ → ℕ
  pub is_aligned : ℕ → Bool
  pub steps_of : ℕ → ℕ
  -- the carriers that are known, in the order of their creation; of each the port at which it is present, where it is until the row
  -- that forgets it has fired, whether its slot map is VERIFIED, and the number of its state in table 10
  pub carriers : List ℕ
  pub present_at : ℕ → Option ℕ
  pub is_verified : ℕ → Bool
  pub access : ℕ → ℕ
  -- what process jobs say
  pub jobs : JobView
  -- the chambers of the tool, in the order of their numbers; the modules; and the number that the next command gets
  pub chambers : List ℕ
  pub equipment : ℕ → Module
  pub next_command : ℕ

-- no process job is there
abbrev pub no_jobs : JobView
no_jobs = record {
  is_member = λ n. false;
  may_start = λ n. false;
  is_stopping = λ n. false;
  is_aborting = λ n. false;
  is_complete = λ n. false;
  route_of = λ n. [];
  names_carrier = λ c. false;
  is_marked = λ c. false;
}

-- the floor of a tool with these chambers as it begins: no carrier is known, and each module is Idle
abbrev pub opening : List ℕ → Floor
opening chambers = record {
  substrates = [];
  next_substrate = 1;
  carrier_of = λ n. 0;
  port_of = λ n. 0;
  slot_of = λ n. 0;
  place_of = λ n. None;
  transport = λ n. 0;
  processing = λ n. 0;
  is_aligned = λ n. false;
  steps_of = λ n. 0;
  carriers = [];
  present_at = λ c. None;
  is_verified = λ c. false;
  access = λ c. 0;
  jobs = no_jobs;
  chambers = chambers;
  equipment = λ m. idle;
  next_command = 1;
}

-- ---- what is said of them

-- a map with one value anew
abbrev pub set : {A : Type 0} → ℕ → A → (ℕ → A) → ℕ → A
set n value f m = if m == n then value else f m

-- the number of a chamber's module
abbrev pub chamber_module : ℕ → ℕ
chamber_module c = suc (suc c)

-- the modules by their numbers: 1 is the robot, 2 the aligner, 2 + c chamber c
abbrev pub modules : Floor → List ℕ
modules g = 1 ∷ 2 ∷ map chamber_module g.chambers

-- the slot of a substrate's own: where it came from and goes to
abbrev pub own : ℕ → Floor → Loc
own n g = slot (g.port_of n) (g.slot_of n)

-- a place is this location
abbrev pub is_at : Loc → Option Loc → Bool
is_at l None = false
is_at l (Some at) = is_same l at

-- the substrate at a location
abbrev pub holder : Loc → Floor → Option ℕ
holder l g = find (λ n. is_at l (g.place_of n)) g.substrates

-- a substrate is outside its slot: at the aligner, on the arm or in a chamber
abbrev pub is_outside : Option Loc → Bool
is_outside None = false
is_outside (Some (slot p k)) = false
is_outside (Some aligner) = true
is_outside (Some arm) = true
is_outside (Some (chamber c)) = true

-- a substrate is finished: it is neither NEEDS PROCESSING nor IN PROCESS
abbrev pub is_finished : ℕ → Bool
is_finished state = not ((state == 0) || (state == 1))

-- ---- routes

-- the step of a number of a route, from 0 on; no chamber where there is none
abbrev pub step_at : ℕ → List (List ℕ) → List ℕ
step_at k [] = []
step_at zero (step ∷ steps) = step
step_at (suc k) (step ∷ steps) = step_at k steps

-- the next step of a substrate: the first of its route that isn't done; no chamber where all are
abbrev pub next_step : ℕ → Floor → List ℕ
next_step n g = step_at (g.steps_of n) (g.jobs.route_of n)

-- ---- what is done

-- it is finished, and in its slot or Removed
abbrev pub is_done : ℕ → Floor → Bool
is_done n g = is_finished (g.processing n) && not (is_outside (g.place_of n))
