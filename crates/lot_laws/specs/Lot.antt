-- A control job that executes undisturbed on the floor of the tool: its substrates (after SEMI E40, SEMI E90 and SEMI E94; this tool's
-- profile, tables 14 and 15, and moves). Which substrates are counted is settled as it starts.
use Rattle.std.specs.Prelude.{◌≡◌, ◌⊎◌, ℕ, ◌+◌, ◌==◌, ◌≤◌, Bool, true, false, ◌&&◌, ◌||◌, List, [], ◌∷◌, length, find, Option, Some, None, is_some}
use Rattle.std.specs.List.{list_any}
use Rattle.gem_tables.specs.Table.{firing, is_one_of}
use Rattle.gem_tables.specs.declared.firing.Firing.{Firing}
use Rattle.shop_floor.specs.Floor.{Floor}
use Rattle.tool_tasks.specs.Routes.{most_steps}
use Rattle.substrate.specs.Record.{is_at_source, is_needing}
use Rattle.process_job.specs.Jobs.{JobBook, job_named, job_numbered, recipe_named}
use Rattle.process_job.specs.declared.job.ProcessJob.{ProcessJob}
use Rattle.process_job.specs.declared.record.JobState.{JobState}
use Rattle.control_job.specs.Jobs.{job_numbered as control_numbered}
use Rattle.control_job.specs.Tables.{states_number}
use Rattle.control_job.specs.Record.{is_active}
use Rattle.control_job.specs.declared.job.ControlJob.{ControlJob}
use Rattle.tool_jobs.specs.Jobs.{Jobs}
use Rattle.tool_jobs.specs.Wants.{is_ending, ends_so}
use Rattle.tool_jobs.specs.Together.{AreTogether}
use Rattle.floor_model.specs.declared.tracked.Substrate.{Substrate}
use Rattle.floor_model.specs.Floor.{ToolFloor, substrate_numbered}
use Rattle.floor_model.specs.Jobs.{names_slot_of, can_join, is_here, job_of, is_stopping, is_aborting}
use Rattle.floor_model.specs.Substrates.{reaches_verified}
use Rattle.floor_model.specs.Machines.{floor_fired}
use Rattle.floor_moves.specs.Floor.{is_done}
use Rattle.floor_moves.specs.Valid.{HaveChambers}
use Rattle.place_laws.specs.Picture.{picture, of_substrate, steps_in}
use Rattle.place_laws.specs.Sound.{Sound}
use Rattle.owed_laws.specs.Owed.{owed_to, commands_of}
use Rattle.owed_laws.specs.Undisturbed.{SubstratesStand, AreUnaligned}
use Rattle.queue_laws.specs.Started.{is_queued, is_left_in, AreStarted}
use Rattle.queue_laws.specs.Steers.{Steers, is_executing, goes_on}

-- ---- which process job takes a substrate

-- the material of a process job names the slot of a substrate
abbrev pub is_in_named_slot : ProcessJob → Floor → Substrate → Bool
is_in_named_slot j shop s = list_any (names_slot_of shop s) j.material

-- that of a process job that was looked for
abbrev pub is_in_found_slot : Option ProcessJob → Floor → Substrate → Bool
is_in_found_slot None shop s = false
is_in_found_slot (Some j) shop s = is_in_named_slot j shop s

-- that of the process job of a name
abbrev pub names_slot : ToolFloor → Substrate → List ℕ → Bool
names_slot f s name = is_in_found_slot (job_named name f.jobs.process.kept) f.shop s

-- the names of the process jobs that are left in a control job, in the order in which it named them
abbrev pub names_left : Option ControlJob → List (List ℕ)
names_left None = []
names_left (Some c) = c.left

-- the name of the first process job that is left in the control job of a number, in this order, that names the slot of a substrate
abbrev pub first_naming : ℕ → ToolFloor → Substrate → Option (List ℕ)
first_naming number f s = find (names_slot f s) (names_left (control_numbered number f.jobs.control.jobs))

-- ---- which route it takes

-- the route of a process job: the steps of its recipe, each with its chambers
abbrev pub route_by : JobBook → ProcessJob → List (List ℕ)
route_by b j = steps_in (recipe_named j.recipe b.recipes)

-- that of a process job that was looked for; no step where there is none
abbrev pub route_found : JobBook → Option ProcessJob → List (List ℕ)
route_found b None = []
route_found b (Some j) = route_by b j

-- that of the process job whose name was found
abbrev pub route_named : JobBook → Option (List ℕ) → List (List ℕ)
route_named b None = []
route_named b (Some name) = route_found b (job_named name b.kept)

-- The routes of substrates in process jobs can be gone to their ends: each step that isn't done has a chamber of the tool, the steps rise,
-- and there are six at the most.
pub record HaveRoutes (f : ToolFloor) : Type 0 where
  pub chambers : HaveChambers (picture f)
  pub few : (n : ℕ) → (picture f).jobs.is_member n ≡ true → length ((picture f).jobs.route_of n) ≤ most_steps

-- ---- as it starts

-- a substrate is AT SOURCE and NEEDS PROCESSING, and a process job that is left in the control job of a number names its slot
abbrev pub is_wanted : ℕ → ToolFloor → Substrate → Bool
is_wanted number f s = (is_at_source s.states.transport && is_needing s.states.processing) && is_some (first_naming number f s)

-- the substrates that are counted of the control job of a number, as it starts: those that are so
abbrev pub counted_of : ℕ → ToolFloor → ℕ → Bool
counted_of number f n = of_substrate false (is_wanted number f) f n

-- the route that is planned for a substrate: that of the first process job that names its slot
abbrev pub planned_of : ℕ → ToolFloor → ℕ → List (List ℕ)
planned_of number f n = of_substrate [] (λ s. route_named f.jobs.process (first_naming number f s)) f n

-- The commands that all counted substrates take, which are as many Dones: for each five, for its way there and back, and three for each
-- step of the route that is planned for it.
abbrev pub total : ℕ → ToolFloor → ℕ
total number f = commands_of (λ n. length (planned_of number f n)) (counted_of number f) (picture f)

-- the material of each process job that is left in it is here
abbrev pub IsMaterialHere : ℕ → ToolFloor → Type 0
IsMaterialHere number f = (k : ℕ) (j : ProcessJob) → job_numbered k f.jobs.process.kept ≡ Some j → is_left_in number j.id f.jobs ≡ true
    → is_here j f.shop ≡ true

-- ---- at every moment

-- each substrate is in no process job, or in one that is kept
abbrev pub AreInKeptJobs : ToolFloor → Type 0
AreInKeptJobs f = (n : ℕ) (s : Substrate) → substrate_numbered n f.substrates ≡ Some s → (s.job == 0) ≡ false
    → (j : ProcessJob) × (job_of s f.jobs ≡ Some j)

-- ---- while it executes

-- a substrate is in a process job, the first that is left in the control job of a number and names its slot, which has this route
abbrev pub IsInJob : ℕ → List (List ℕ) → Substrate → ToolFloor → Type 0
IsInJob number route s f =
    (j : ProcessJob) × (job_of s f.jobs ≡ Some j) × (first_naming number f s ≡ Some j.id) × (route_by f.jobs.process j ≡ route)

-- a substrate waits for a process job, the first that is left in the control job of a number and names its slot, which has this route and
-- is QUEUED; and can join it
pub record Waits (number : ℕ) (route : List (List ℕ)) (s : Substrate) (f : ToolFloor) : Type 0 where
  pub at : ℕ
  pub job : ProcessJob
  pub kept : job_numbered at f.jobs.process.kept ≡ Some job
  pub left : is_left_in number job.id f.jobs ≡ true
  pub first : first_naming number f s ≡ Some job.id
  pub goes_by : route_by f.jobs.process job ≡ route
  pub queued : is_queued job.states.state ≡ true
  pub joins : can_join job f.shop s ≡ true

-- The control job of a number executes, and nothing disturbed it: the material of the process jobs that are left in it is here; each
-- substrate in a job is counted; each that is counted is finished and in its slot or without a place, or it is in the first job that is
-- left and names its slot, or it waits for that, which has the route that is planned for it; what such a job can still take is counted; and
-- the substrates stand as they do undisturbed.
pub record Executes (number : ℕ) (planned : ℕ → List (List ℕ)) (counted : ℕ → Bool) (f : ToolFloor) : Type 0 where
  pub steers : Steers number f.jobs
  pub here : IsMaterialHere number f
  pub members : (n : ℕ) → (picture f).jobs.is_member n ≡ true → counted n ≡ true
  pub stands : (n : ℕ) (s : Substrate) → substrate_numbered n f.substrates ≡ Some s → counted n ≡ true
      → (is_done n (picture f) ≡ true) ⊎ (IsInJob number (planned n) s f ⊎ Waits number (planned n) s f)
  pub all : (n k : ℕ) (s : Substrate) (j : ProcessJob) → substrate_numbered n f.substrates ≡ Some s
      → job_numbered k f.jobs.process.kept ≡ Some j → is_left_in number j.id f.jobs ≡ true → can_join j f.shop s ≡ true → counted n ≡ true
  pub substrates : SubstratesStand counted (picture f)

-- ---- rows that register substrates

-- a row of table 9 by which the slot map of a carrier is VERIFIED
abbrev pub is_registration : Firing → Bool
is_registration x = (x.row.table == 9) && reaches_verified x.row.row

-- ---- what a row does

-- Behind a row the control job executes on, and as much is owed; or the row is its completion, and none is owed.
abbrev pub GoesOnOrCompletes : ℕ → (ℕ → List (List ℕ)) → (ℕ → Bool) → ToolFloor → Firing → Type 0
GoesOnOrCompletes number planned counted f x =
    (Executes number planned counted (floor_fired x f) × (owed_to planned counted (picture (floor_fired x f)) ≡ owed_to planned counted (picture f)))
    ⊎ ((x ≡ firing 15 number 8) × (owed_to planned counted (picture f) ≡ 0))

-- behind a Done it executes on, and one less is owed
abbrev pub TakesOneOff : ℕ → (ℕ → List (List ℕ)) → (ℕ → Bool) → ToolFloor → ToolFloor → Type 0
TakesOneOff number planned counted f g =
    Executes number planned counted g × (owed_to planned counted (picture g) + 1 ≡ owed_to planned counted (picture f))

-- ---- what holds on the floor at every moment, but between two rows that one input fires

pub record InOrder (f : ToolFloor) : Type 0 where
  pub sound : Sound f
  pub together : AreTogether f.jobs
  pub started : AreStarted f.jobs
  pub unaligned : AreUnaligned (picture f)
  pub in_jobs : AreInKeptJobs f

-- ---- what disturbs it

-- What an input does to the floor, before the tool settles, doesn't disturb it: it executes still; each process job that was left in it
-- is kept and goes on; and no counted substrate is ABORTED, STOPPED, LOST or SKIPPED that wasn't.
pub record IsCalmBetween (number : ℕ) (counted : ℕ → Bool) (f g : ToolFloor) : Type 0 where
  pub executes : is_executing (control_numbered number g.jobs.control.jobs) ≡ true
  pub going : (n : ℕ) (j : ProcessJob) → job_numbered n f.jobs.process.kept ≡ Some j → is_left_in number j.id f.jobs ≡ true
      → (k : ProcessJob) × (job_numbered n g.jobs.process.kept ≡ Some k) × (goes_on k.states.state ≡ true)
  pub works : (n : ℕ) → counted n ≡ true → is_one_of (3 ∷ 4 ∷ 6 ∷ 7 ∷ []) ((picture g).processing n) ≡ true
      → (picture g).processing n ≡ (picture f).processing n

-- ---- while an input comes

-- a control job is EXECUTING or PAUSED, and isn't ending
abbrev pub is_under_way : Option ControlJob → Bool
is_under_way None = false
is_under_way (Some c) = is_one_of (3 ∷ 4 ∷ []) (states_number c.states)

-- a process job is STOPPING or ABORTING
abbrev pub breaks_off : JobState → Bool
breaks_off s = is_stopping s || is_aborting s

-- the process job of a number was kept, and was left in the control job of a number
abbrev pub WasLeft : ℕ → Jobs → ℕ → Type 0
WasLeft number before n = (j : ProcessJob) × (job_numbered n before.process.kept ≡ Some j) × (is_left_in number j.id before ≡ true)

-- The control job of a number is EXECUTING or PAUSED and isn't ending, and no other one is active. Each process job that is left in it
-- starts by itself, isn't STOPPING or ABORTING, and was left in it before; and each that isn't QUEUED is left in it.
pub record IsAtWork (number : ℕ) (before w : Jobs) : Type 0 where
  pub works : is_under_way (control_numbered number w.control.jobs) ≡ true
  pub alone : (m : ℕ) (c : ControlJob) → control_numbered m w.control.jobs ≡ Some c → is_active c.states.state ≡ true → m ≡ number
  pub auto : (n : ℕ) (j : ProcessJob) → job_numbered n w.process.kept ≡ Some j → is_left_in number j.id w ≡ true → j.auto ≡ true
  pub whole : (n : ℕ) (j : ProcessJob) → job_numbered n w.process.kept ≡ Some j → is_left_in number j.id w ≡ true → breaks_off j.states.state ≡ false
  pub started : (n : ℕ) (j : ProcessJob) → job_numbered n w.process.kept ≡ Some j → is_queued j.states.state ≡ false → is_left_in number j.id w ≡ true
  pub were : (n : ℕ) (j : ProcessJob) → job_numbered n w.process.kept ≡ Some j → is_left_in number j.id w ≡ true → WasLeft number before n

-- It is at work, and for the rest all is as where it executes.
pub record AtWork (number : ℕ) (planned : ℕ → List (List ℕ)) (counted : ℕ → Bool) (before : Jobs) (f : ToolFloor) : Type 0 where
  pub steers : IsAtWork number before f.jobs
  pub here : IsMaterialHere number f
  pub members : (n : ℕ) → (picture f).jobs.is_member n ≡ true → counted n ≡ true
  pub stands : (n : ℕ) (s : Substrate) → substrate_numbered n f.substrates ≡ Some s → counted n ≡ true
      → (is_done n (picture f) ≡ true) ⊎ (IsInJob number (planned n) s f ⊎ Waits number (planned n) s f)
  pub all : (n k : ℕ) (s : Substrate) (j : ProcessJob) → substrate_numbered n f.substrates ≡ Some s
      → job_numbered k f.jobs.process.kept ≡ Some j → is_left_in number j.id f.jobs ≡ true → can_join j f.shop s ≡ true → counted n ≡ true
  pub substrates : SubstratesStand counted (picture f)

-- An input disturbs it for good: it is ending; a process job that was left in it is kept no more, or is STOPPING or ABORTING; or a
-- counted substrate is ABORTED, STOPPED, LOST or SKIPPED that wasn't. The floor as the input came goes first.
pub data Disturbed (number : ℕ) (counted : ℕ → Bool) (before f : ToolFloor) : Type 0 where
  ends : ends_so is_ending (control_numbered number f.jobs.control.jobs) ≡ true → Disturbed number counted before f
  loses : (n : ℕ) → WasLeft number before.jobs n → n ≤ f.jobs.process.given → job_numbered n f.jobs.process.kept ≡ None → Disturbed number counted before f
  breaks : (n : ℕ) (k : ProcessJob) → WasLeft number before.jobs n → job_numbered n f.jobs.process.kept ≡ Some k → breaks_off k.states.state ≡ true
      → Disturbed number counted before f
  spoils : (n : ℕ) → counted n ≡ true → is_one_of (3 ∷ 4 ∷ 6 ∷ 7 ∷ []) ((picture f).processing n) ≡ true
      → ((picture f).processing n == (picture before).processing n) ≡ false → Disturbed number counted before f

-- It is at work and as much is owed as as the input came, or it is disturbed.
abbrev pub WorksOrIsDisturbed : ℕ → (ℕ → List (List ℕ)) → (ℕ → Bool) → ToolFloor → ToolFloor → Type 0
WorksOrIsDisturbed number planned counted before f =
    (AtWork number planned counted before.jobs f × (owed_to planned counted (picture f) ≡ owed_to planned counted (picture before)))
    ⊎ Disturbed number counted before f

-- ---- rows that words fire

-- A row of table 14 or 15 that no job fires by itself: that which creates it, and those of the commands to it.
abbrev pub is_word : Firing → Bool
is_word x =
    ((x.row.table == 14) && is_one_of (1 ∷ 5 ∷ 8 ∷ 10 ∷ 11 ∷ 12 ∷ 15 ∷ []) x.row.row)
    || ((x.row.table == 15) && is_one_of (1 ∷ 5 ∷ 6 ∷ 7 ∷ 9 ∷ 10 ∷ 11 ∷ 12 ∷ []) x.row.row)
