-- Floors of the tool with a process job and a control job, made by hand, and what the host does to the jobs.
use Rattle.std.specs.Prelude.{ℕ, Bool, true, List, [], ◌∷◌, codes}
use Rattle.gem_tables.specs.Table.{firing}
use Rattle.gem_tables.specs.declared.firing.Firing.{Firing}
use Rattle.gem_ids.specs.declared.numbers.LocId.{LocId}
use Rattle.gem_ids.specs.declared.numbers.LocId.TheVariants.{Arm, Chamber}
use Rattle.tool_tasks.specs.Chambers.{chamber_set}
use Rattle.tool_tasks.specs.declared.recipes.Recipe.{Recipe}
use Rattle.tool_tasks.specs.declared.task.Task.TheVariants as task
use Rattle.process_job.specs.declared.job.Material.{Material}
use Rattle.process_job.specs.declared.job.ProcessJob.{ProcessJob}
use Rattle.process_job.specs.declared.record.JobState.{JobState}
use Rattle.process_job.specs.declared.record.JobState.TheVariants as process
use Rattle.control_job.specs.declared.job.ControlJob.{ControlJob}
use Rattle.control_job.specs.declared.record.ControlState.{ControlState}
use Rattle.control_job.specs.declared.record.ControlState.TheVariants as control
use Rattle.control_job.specs.declared.record.Ending.TheVariants.{No}
use Rattle.substrate.specs.declared.record.Processing.TheVariants.{InProcess, Processed}
use Rattle.floor_model.specs.declared.tracked.Substrate.{Substrate}
use Rattle.floor_model.specs.Floor.{ToolFloor, change_numbered}
use Rattle.worked_floors.specs.Worked.{wafer, recipes, processing_is, steps_are, has_open, in_slot, aligned_at}

-- ---- the jobs

-- the process job: each slot of the carrier, by the recipe of the tool
abbrev pub process_with : JobState → Bool → ProcessJob
process_with state auto = record {
  number = 1;
  id = codes "PJ1";
  states = record { state = state };
  auto = auto;
  recipe = codes "R1";
  material = record { carrier = codes "LOT7"; slots = [] } ∷ [];
}

-- the control job of it, or of none any more, which starts automatically and isn't ending
abbrev pub control_with : ControlState → List (List ℕ) → ControlJob
control_with state left = record {
  number = 1;
  name = codes "CJ1";
  states = record { state = state; ending = No };
  auto = true;
  named = codes "PJ1" ∷ [];
  left = left;
}

-- a floor with these jobs
abbrev pub with_both : List ProcessJob → List ControlJob → ToolFloor → ToolFloor
with_both js cs f = record f {
  jobs = record {
    process = record { kept = js; recipes = recipes; given = 1 };
    control = record { jobs = cs; order = 1 ∷ []; given = 1 };
  };
}

-- the process job in this state, in the control job, which is EXECUTING
abbrev pub running : JobState → ToolFloor → ToolFloor
running state f = with_both (process_with state true ∷ []) (control_with control.Executing (codes "PJ1" ∷ []) ∷ []) f

-- the process job has ended, and the control job is COMPLETED
abbrev pub ended : ToolFloor → ToolFloor
ended f = with_both [] (control_with control.Completed [] ∷ []) f

-- the substrate is a member of the process job
abbrev pub joins : Substrate → Substrate
joins s = record s { job = 1 }

abbrev pub is_member : ToolFloor → ToolFloor
is_member f = record f { substrates = change_numbered 1 joins f.substrates }

-- the substrate is a member of the process job, which is PROCESSING
abbrev pub in_job : ToolFloor → ToolFloor
in_job f = is_member (running process.Processing f)

-- ---- routes

-- the recipe as a route of two steps, of which chamber 1 can do the first and chamber 2 the second
abbrev pub two_steps : List Recipe
two_steps = record { name = codes "R1"; route = chamber_set (1 ∷ []) ∷ chamber_set (2 ∷ []) ∷ [] } ∷ []

-- the tool has it so
abbrev pub by_two_steps : ToolFloor → ToolFloor
by_two_steps f = record f { jobs = record f.jobs { process = record f.jobs.process { recipes = two_steps } } }

-- ---- the floors

-- the substrate is out at a place, IN PROCESS between the two steps
abbrev pub between_at : LocId → ToolFloor
between_at loc = steps_are 1 (processing_is InProcess (aligned_at loc))

-- the robot places it in chamber 2 then
abbrev pub going_on : ToolFloor
going_on = has_open 1 8 (task.Place wafer (Chamber 2)) (between_at Arm)

-- chamber 2 processes it
abbrev pub working_again : ToolFloor
working_again = has_open 4 9 (task.Process wafer (codes "R1")) (between_at (Chamber 2))

-- it is out at a place, finished by its two steps
abbrev pub finished_again_at : LocId → ToolFloor
finished_again_at loc = steps_are 2 (processing_is Processed (aligned_at loc))

-- both jobs were created, and the material is here; the process job starts automatically, or by hand
abbrev pub created : Bool → ToolFloor
created auto = with_both (process_with process.Queued auto ∷ []) (control_with control.Queued (codes "PJ1" ∷ []) ∷ []) in_slot

-- a second process job over the same slots; and both, in a control job that names the second one first
abbrev pub second : ProcessJob
second = record (process_with process.Queued true) { number = 2; id = codes "PJ2" }

abbrev pub named_twice : ToolFloor
named_twice = record in_slot {
  jobs = record {
    process = record { kept = process_with process.Queued true ∷ second ∷ []; recipes = recipes; given = 2 };
    control = record {
      jobs = record (control_with control.Queued (codes "PJ2" ∷ codes "PJ1" ∷ [])) { named = codes "PJ2" ∷ codes "PJ1" ∷ [] } ∷ [];
      order = 1 ∷ [];
      given = 1;
    };
  };
}

-- ---- what the host and the operator do

-- a row at the process job, or at the control job
abbrev pub at_process : ℕ → ToolFloor → List Firing
at_process row f = firing 14 1 row ∷ []

abbrev pub at_control : ℕ → ToolFloor → List Firing
at_control row f = firing 15 1 row ∷ []

-- START, PAUSE, RESUME, STOP and ABORT of the process job
abbrev pub started : ToolFloor → List Firing
started = at_process 5

abbrev pub paused : ToolFloor → List Firing
paused = at_process 8

abbrev pub resumed : ToolFloor → List Firing
resumed = at_process 10

abbrev pub stopped : ToolFloor → List Firing
stopped = at_process 11

abbrev pub aborted : ToolFloor → List Firing
aborted = at_process 12
