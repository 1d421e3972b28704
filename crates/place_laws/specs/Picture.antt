-- The floor of the tool by numbers, as the laws of the moves read it (after SEMI E87 and E90; this tool's profile, carriers, substrates
-- and moves). A substrate, a carrier and a module go by their numbers; what a column says of a number that is none counts for
-- nothing, and is the least there is.
use Rattle.std.specs.Prelude.{ℕ, zero, suc, ◌+◌, ◌==◌, Bool, true, false, if◌then◌else◌, List, [], ◌∷◌, find, map, Option, Some, None, option_map}
use Rattle.gem_ids.specs.declared.numbers.LocId.{LocId}
use Rattle.gem_ids.specs.declared.numbers.LocId.TheVariants.{Slot, Aligner, Arm, Chamber}
use Rattle.gem_ids.specs.declared.numbers.PortNo.{PortNo}
use Rattle.tool_tasks.specs.declared.task.Task.{Task as ToolTask}
use Rattle.tool_tasks.specs.declared.task.Task.TheVariants as task
use Rattle.robot_moves.specs.declared.module.Module.{Module as ToolModule}
use Rattle.robot_moves.specs.declared.module.Module.TheVariants.{Idle, Busy, Down}
use Rattle.robot_moves.specs.Modules.{module_at}
use Rattle.carrier.specs.declared.carrier.Carrier.{Carrier}
use Rattle.carrier.specs.Tables.{access_number}
use Rattle.carrier.specs.Record.{is_map_verified}
use Rattle.carrier.specs.Carriers.{carrier_numbered}
use Rattle.substrate.specs.Tables.{transport_number, processing_number}
use Rattle.substrate.specs.Places.{PlaceMap}
use Rattle.floor_model.specs.declared.tracked.Substrate.{Substrate}
use Rattle.floor_model.specs.Floor.{ToolFloor, substrate_numbered, number_of}
use Rattle.floor_model.specs.Modules.{number_named}
use Rattle.floor_model.specs.Jobs.{job_of, is_any_of_carrier, is_processing, is_stopping, is_aborting}
use Rattle.floor_model.specs.Views.{route_of}
use Rattle.tool_tasks.specs.Chambers.{chamber_list}
use Rattle.tool_tasks.specs.declared.recipes.Recipe.{Recipe}
use Rattle.process_job.specs.Jobs.{recipe_named}
use Rattle.process_job.specs.declared.job.ProcessJob.{ProcessJob}
use Rattle.process_job.specs.declared.record.JobState.{JobState}
use Rattle.process_job.specs.declared.record.JobState.TheVariants.{Complete}
use Rattle.tool_jobs.specs.Jobs.{Jobs}
use Rattle.shop_floor.specs.Floor as shop
use Rattle.floor_moves.specs.Floor.{Loc, slot, aligner, arm, chamber, Task, pick, place, align, process, Module, idle, busy, down, JobView, Floor}

-- ---- places

-- a place
abbrev pub loc_of : LocId → Loc
loc_of (Slot p k) = slot p.0 k.0
loc_of Aligner = aligner
loc_of Arm = arm
loc_of (Chamber c) = chamber c

-- the port of a slot, and its number there
abbrev pub port_in : LocId → ℕ
port_in (Slot p k) = p.0
port_in _ = 0

abbrev pub slot_in : LocId → ℕ
slot_in (Slot p k) = k.0
slot_in _ = 0

-- the place of the substrate of a number, where it has one
abbrev pub place_in : PlaceMap → ℕ → Option Loc
place_in p n = option_map (λ r. loc_of r.at) (find (λ r. r.number == n) p.held)

-- ---- substrates and carriers

-- what is said of one, where there is one; else this
abbrev pub of_one : {A B : Type 0} → B → (A → B) → Option A → B
of_one else_ says None = else_
of_one else_ says (Some a) = says a

-- what is said of the substrate of a number
abbrev pub of_substrate : {B : Type 0} → B → (Substrate → B) → ToolFloor → ℕ → B
of_substrate else_ says f n = of_one else_ says (substrate_numbered n f.substrates)

-- what is said of the carrier of a number
abbrev pub of_carrier : {B : Type 0} → B → (Carrier → B) → ToolFloor → ℕ → B
of_carrier else_ says f c = of_one else_ says (carrier_numbered c f.shop.carriers)

-- the port of a number
abbrev pub port_number : Option PortNo → Option ℕ
port_number p = option_map (λ n. n.0) p

-- the port at which a carrier is present
abbrev pub where_present : Carrier → Option ℕ
where_present c = if c.present then port_number c.port else None

-- ---- modules

-- the number of a substrate that is named, 0 where none of that name has a place
abbrev pub number_or_none : Option ℕ → ℕ
number_or_none None = 0
number_or_none (Some n) = n

abbrev pub numbered : List ℕ → PlaceMap → ℕ
numbered sub p = number_or_none (number_named sub p)

-- a task
abbrev pub task_of : ToolTask → PlaceMap → Task
task_of (task.Pick sub from) p = pick (numbered sub p) (loc_of from)
task_of (task.Place sub to) p = place (numbered sub p) (loc_of to)
task_of (task.Align sub) p = align (numbered sub p)
task_of (task.Process sub recipe) p = process (numbered sub p)

-- a module; one that the tool lacks is Idle
abbrev pub module_of : Option ToolModule → PlaceMap → Module
module_of None p = idle
module_of (Some Idle) p = idle
module_of (Some (Busy command fetched)) p = busy (record { number = command.number.0; task = task_of command.task p })
module_of (Some Down) p = down

-- so many numbers from one on
abbrev pub numbers_from : ℕ → ℕ → List ℕ
numbers_from n zero = []
numbers_from n (suc count) = n ∷ numbers_from (n + 1) count

-- ---- jobs

-- A route has a step. No configuration has a recipe without one; what is unknown counts as one step that no chamber can do.
abbrev pub some_steps : List (List ℕ) → List (List ℕ)
some_steps [] = [] ∷ []
some_steps (step ∷ steps) = step ∷ steps

-- the chambers of each step of the route of a recipe
abbrev pub steps_in : Option Recipe → List (List ℕ)
steps_in o = some_steps (map chamber_list (route_of o))

-- what is said of the process job of a substrate; else this, where it is in none
abbrev pub of_job : {B : Type 0} → B → (ProcessJob → B) → Jobs → Substrate → B
of_job else_ says w s = of_one else_ says (job_of s w)

-- a process job is PROCESS COMPLETE
abbrev pub is_complete : JobState → Bool
is_complete Complete = true
is_complete _ = false

-- what process jobs say of these substrates and carriers: those that are kept and known
abbrev pub job_view : List Substrate → List Carrier → Jobs → JobView
job_view ss cs w = record {
  is_member = λ n. of_one false (of_job false (λ j. true) w) (substrate_numbered n ss);
  may_start = λ n. of_one false (of_job false (λ j. is_processing j.states.state) w) (substrate_numbered n ss);
  is_stopping = λ n. of_one false (of_job false (λ j. is_stopping j.states.state) w) (substrate_numbered n ss);
  is_aborting = λ n. of_one false (of_job false (λ j. is_aborting j.states.state) w) (substrate_numbered n ss);
  is_complete = λ n. of_one false (of_job false (λ j. is_complete j.states.state) w) (substrate_numbered n ss);
  route_of = λ n. of_one [] (of_job [] (λ j. steps_in (recipe_named j.recipe w.process.recipes)) w) (substrate_numbered n ss);
  names_carrier = λ c. of_one false (λ (x : Carrier). is_any_of_carrier x.name w) (carrier_numbered c cs);
  is_marked = λ c. of_one false (λ (x : Carrier). x.stopped) (carrier_numbered c cs);
}

-- ---- all of it

abbrev pub picture : ToolFloor → Floor
picture f = record {
  substrates = map number_of f.substrates;
  next_substrate = f.places.given + 1;
  carrier_of = of_substrate 0 (λ s. s.carrier) f;
  port_of = of_substrate 0 (λ s. port_in s.slot) f;
  slot_of = of_substrate 0 (λ s. slot_in s.slot) f;
  place_of = place_in f.places;
  transport = of_substrate 0 (λ s. transport_number s.states.transport) f;
  processing = of_substrate 0 (λ s. processing_number s.states.processing) f;
  is_aligned = of_substrate false (λ s. s.aligned) f;
  steps_of = of_substrate 0 (λ s. s.steps) f;
  carriers = map shop.number_of f.shop.carriers;
  present_at = of_carrier None where_present f;
  is_verified = of_carrier false (λ c. is_map_verified c.states.map) f;
  access = of_carrier 0 (λ c. access_number c.states.access) f;
  jobs = job_view f.substrates f.shop.carriers f.jobs;
  chambers = numbers_from 1 f.places.chambers;
  equipment = λ m. module_of (module_at m f.modules) f.places;
  next_command = f.commands + 1;
}
