-- Facts that hold at every moment (after SEMI E87 and E90; this tool's profile, substrates and moves).
use Rattle.std.specs.Prelude.{◌≡◌, ◌≤◌, ◌<◌, ℕ, true, false, ◌||◌, List, [], ◌∷◌, length, Some, None}
use Rattle.gem_tables.specs.Table.{is_one_of}
use Rattle.floor_moves.specs.Floor.{Loc, slot, aligner, arm, chamber, pick, place, align, process, named, Command, busy, JobView, Floor, chamber_module, modules, own, is_outside, is_finished, step_at, next_step, is_done}

-- no substrate is there
abbrev pub Empty : Loc → Floor → Type 0
Empty l g = (n : ℕ) → g.place_of n ≡ Some l → ⊥

-- no number is in the list twice
abbrev pub IsDistinct : List ℕ → Type 0
IsDistinct [] = Unit {0}
IsDistinct (n ∷ ns) = (is_one_of ns n ≡ false) × IsDistinct ns

-- no open command names the substrate
abbrev pub IsUnnamed : ℕ → Floor → Type 0
IsUnnamed n g = (m : ℕ) (c : Command) → g.equipment m ≡ busy c → named c.task ≡ n → ⊥

-- ---- places (after SEMI E90)

-- what holds of the places of substrates
abbrev pub Places : Floor → Type 0
Places g = record {
  -- two substrates with locations have different ones
  apart : (n m : ℕ) (l : Loc) → g.place_of n ≡ Some l → g.place_of m ≡ Some l → n ≡ m;
  -- a substrate in a slot is in its own
  home : (n p k : ℕ) → g.place_of n ≡ Some (slot p k) → slot p k ≡ own n g;
  -- what has a location is kept
  kept : (n : ℕ) (l : Loc) → g.place_of n ≡ Some l → is_one_of g.substrates n ≡ true;
  -- no two that are kept have the same slot of their own
  slots : (n m : ℕ) → is_one_of g.substrates n ≡ true → is_one_of g.substrates m ≡ true → own n g ≡ own m g → n ≡ m;
  -- each number of registration is given once, and is below the next
  distinct : IsDistinct g.substrates;
  given : (n : ℕ) → is_one_of g.substrates n ≡ true → n < g.next_substrate;
  -- a substrate in a chamber is in one of the tool
  chambers : (n c : ℕ) → g.place_of n ≡ Some (chamber c) → is_one_of g.chambers c ≡ true;
}

-- ---- carriers (after SEMI E87)

-- what holds of the carriers of substrates that are kept
abbrev pub Carriers : Floor → Type 0
Carriers g = record {
  -- the carrier of a substrate that is kept is present at the port of its slot, with map VERIFIED
  present : (n : ℕ) → is_one_of g.substrates n ≡ true → g.present_at (g.carrier_of n) ≡ Some (g.port_of n);
  verified : (n : ℕ) → is_one_of g.substrates n ≡ true → g.is_verified (g.carrier_of n) ≡ true;
  -- at most one carrier is present at a port, and it is known
  alone : (c d p : ℕ) → g.present_at c ≡ Some p → g.present_at d ≡ Some p → c ≡ d;
  known : (c p : ℕ) → g.present_at c ≡ Some p → is_one_of g.carriers c ≡ true;
}

-- ---- open commands (this tool's profile, moves)

-- Where an unfinished substrate goes next there is room: for one that isn't aligned at the aligner, for an aligned one in a
-- chamber of its next step. So what is picked can be placed.
abbrev pub HasRoom : ℕ → Floor → Type 0
HasRoom n g =
    is_finished (g.processing n) ≡ false
    → record {
      at_aligner : g.is_aligned n ≡ false → Empty aligner g;
      in_chamber : g.is_aligned n ≡ true → (c : ℕ) × (is_one_of (next_step n g) c ≡ true) × (is_one_of g.chambers c ≡ true) × Empty (chamber c) g;
    }

-- nothing is left to do for the substrate in a chamber: it is finished, or the chamber isn't in its next step
abbrev pub IsThrough : ℕ → ℕ → Floor → Type 0
IsThrough n c g = is_finished (g.processing n) ≡ false → is_one_of (next_step n g) c ≡ false

-- An open Pick is the robot's. It names what stands at its start, which has room where it goes next; the arm is empty. From a
-- slot it names an unfinished substrate, from the aligner a finished or aligned one, from a chamber one for which nothing is left to do
-- there.
abbrev pub PickStands : ℕ → ℕ → Loc → Floor → Type 0
PickStands m n from g = record {
  robot : m ≡ 1;
  stands : g.place_of n ≡ Some from;
  free : Empty arm g;
  room : HasRoom n g;
  from_slot : (p k : ℕ) → from ≡ slot p k → is_finished (g.processing n) ≡ false;
  from_aligner : from ≡ aligner → (is_finished (g.processing n) || g.is_aligned n) ≡ true;
  from_chamber : (c : ℕ) → from ≡ chamber c → IsThrough n c g;
  not_arm : from ≡ arm → ⊥;
}

-- An open Place is the robot's. It names what the arm holds; its end is empty. To a slot, its own, it names a finished substrate,
-- to the aligner one that isn't aligned, to a chamber of the tool an aligned one, where it is unfinished one of its next step.
abbrev pub PlaceStands : ℕ → ℕ → Loc → Floor → Type 0
PlaceStands m n to g = record {
  robot : m ≡ 1;
  stands : g.place_of n ≡ Some arm;
  free : Empty to g;
  to_slot : (p k : ℕ) → to ≡ slot p k → (slot p k ≡ own n g) × (is_finished (g.processing n) ≡ true);
  to_aligner : to ≡ aligner → g.is_aligned n ≡ false;
  to_chamber : (c : ℕ) → to ≡ chamber c → (is_one_of g.chambers c ≡ true) × (g.is_aligned n ≡ true) × (is_finished (g.processing n) ≡ false → is_one_of (next_step n g) c ≡ true);
  not_arm : to ≡ arm → ⊥;
}

-- an open Align is the aligner's, and names what stands there, which isn't aligned
abbrev pub AlignStands : ℕ → ℕ → Floor → Type 0
AlignStands m n g = record {
  its_module : m ≡ 2;
  stands : g.place_of n ≡ Some aligner;
  unaligned : g.is_aligned n ≡ false;
}

-- an open Process is a chamber's, and names what stands there, which is unfinished and has it in its next step
abbrev pub ProcessStands : ℕ → ℕ → Floor → Type 0
ProcessStands m n g =
    (c : ℕ) × (m ≡ chamber_module c) × (g.place_of n ≡ Some (chamber c)) × (is_finished (g.processing n) ≡ false) × (is_one_of (next_step n g) c ≡ true)

-- an open Process names the substrate
abbrev pub IsProcessed : ℕ → Floor → Type 0
IsProcessed n g = (m : ℕ) × (c : Command) × (g.equipment m ≡ busy c) × (c.task ≡ process n)

-- what holds of the open commands
abbrev pub Commands : Floor → Type 0
Commands g = record {
  picks : (m n : ℕ) (l : Loc) (c : Command) → g.equipment m ≡ busy c → c.task ≡ pick n l → PickStands m n l g;
  places : (m n : ℕ) (l : Loc) (c : Command) → g.equipment m ≡ busy c → c.task ≡ place n l → PlaceStands m n l g;
  aligns : (m n : ℕ) (c : Command) → g.equipment m ≡ busy c → c.task ≡ align n → AlignStands m n g;
  processes : (m n : ℕ) (c : Command) → g.equipment m ≡ busy c → c.task ≡ process n → ProcessStands m n g;
  -- no substrate is named by two open commands
  once : (m k : ℕ) (c d : Command) → g.equipment m ≡ busy c → g.equipment k ≡ busy d → named c.task ≡ named d.task → m ≡ k;
  -- open numbers differ and are below the next
  numbers : (m k : ℕ) (c d : Command) → g.equipment m ≡ busy c → g.equipment k ≡ busy d → c.number ≡ d.number → m ≡ k;
  below : (m : ℕ) (c : Command) → g.equipment m ≡ busy c → c.number < g.next_command;
  -- a substrate on the arm has room where it goes next
  room : (n : ℕ) → g.place_of n ≡ Some arm → HasRoom n g;
  -- only modules of the tool have commands
  modules : (m : ℕ) (c : Command) → g.equipment m ≡ busy c → is_one_of (modules g) m ≡ true;
}

-- ---- process jobs (after SEMI E40)

-- what holds of what process jobs say
abbrev pub Members : Floor → Type 0
Members g = record {
  -- a substrate outside its slot, or that an open command names, is in a job; so is one whose job is PROCESSING
  outside : (n : ℕ) → is_outside (g.place_of n) ≡ true → g.jobs.is_member n ≡ true;
  named : (m : ℕ) (c : Command) → g.equipment m ≡ busy c → g.jobs.is_member (named c.task) ≡ true;
  starting : (n : ℕ) → g.jobs.may_start n ≡ true → g.jobs.is_member n ≡ true;
  -- one in a job is kept; the job names its carrier, which is NOT ACCESSED or IN ACCESS
  kept : (n : ℕ) → g.jobs.is_member n ≡ true → is_one_of g.substrates n ≡ true;
  carrier : (n : ℕ) → g.jobs.is_member n ≡ true → g.jobs.names_carrier (g.carrier_of n) ≡ true;
  here : (n : ℕ) → g.jobs.is_member n ≡ true → g.access (g.carrier_of n) ≤ 1;
  -- one in a job that is PROCESS COMPLETE is finished and not outside
  complete : (n : ℕ) → g.jobs.is_member n ≡ true → g.jobs.is_complete n ≡ true → is_done n g ≡ true;
  -- an unfinished one in a job has a step that isn't done
  left : (n : ℕ) → g.jobs.is_member n ≡ true → is_finished (g.processing n) ≡ false → g.steps_of n < length (g.jobs.route_of n);
}

-- ---- routes (this tool's profile, moves)

-- the chamber is in the next step of the substrate, or in one that is done
abbrev pub IsOnRoute : ℕ → ℕ → Floor → Type 0
IsOnRoute n c g = (i : ℕ) × (i ≤ g.steps_of n) × (is_one_of (step_at i (g.jobs.route_of n)) c ≡ true)

-- what holds of the steps of substrates
abbrev pub Steps : Floor → Type 0
Steps g = record {
  -- a substrate in a chamber is aligned, and an unfinished one came there by its route
  aligned : (n c : ℕ) → g.place_of n ≡ Some (chamber c) → g.is_aligned n ≡ true;
  on_route : (n c : ℕ) → g.place_of n ≡ Some (chamber c) → is_finished (g.processing n) ≡ false → IsOnRoute n c g;
  -- an unfinished one in its slot NEEDS PROCESSING
  in_slot : (n p k : ℕ) → g.place_of n ≡ Some (slot p k) → is_finished (g.processing n) ≡ false → g.processing n ≡ 0;
  -- no step is done of one that NEEDS PROCESSING
  fresh : (n : ℕ) → is_one_of g.substrates n ≡ true → g.processing n ≡ 0 → g.steps_of n ≡ 0;
}

-- Each step that isn't done of the route of a substrate in a job has a chamber of the tool, and its steps rise: each chamber of a step has
-- a smaller number than each of a later one.
pub record HaveChambers (g : Floor) : Type 0 where
  pub reach : (n i : ℕ) → g.jobs.is_member n ≡ true → g.steps_of n ≤ i → i < length (g.jobs.route_of n)
      → (c : ℕ) × (is_one_of (step_at i (g.jobs.route_of n)) c ≡ true) × (is_one_of g.chambers c ≡ true)
  pub rise : (n i j c d : ℕ) → g.jobs.is_member n ≡ true → i < j → is_one_of (step_at i (g.jobs.route_of n)) c ≡ true
      → is_one_of (step_at j (g.jobs.route_of n)) d ≡ true → c < d

-- ---- all of them

-- what holds at every moment
pub record Valid (g : Floor) : Type 0 where
  pub places : Places g
  pub carriers : Carriers g
  pub commands : Commands g
  pub members : Members g
  pub steps : Steps g
  -- one that is kept and Removed is finished
  pub removed : (n : ℕ) → is_one_of g.substrates n ≡ true → g.place_of n ≡ None → is_finished (g.processing n) ≡ true

-- ---- what process jobs may say next

-- a view of process jobs is right of the floor, and the route stays of a substrate that is outside its slot or named by an open command
pub record MaySay (view : JobView) (g : Floor) : Type 0 where
  pub right : Members (record g { jobs = view })
  pub outside_same : (n : ℕ) → is_outside (g.place_of n) ≡ true → view.route_of n ≡ g.jobs.route_of n
  pub named_same : (m : ℕ) (c : Command) → g.equipment m ≡ busy c → view.route_of (named c.task) ≡ g.jobs.route_of (named c.task)
