-- What the equipment tells of modules, and what the operator does to them: which rows fire directly (this tool's profile, direct
-- rows and moves).
use Rattle.std.specs.Prelude.{ℕ, Bool, true, false, List, [], ◌∷◌, ◌++◌, Option, Some, None, is_some, not, ◌&&◌, if◌then◌else◌}
use Rattle.std.specs.List.{list_any}
use Rattle.std.specs.Str.{bytes_eq}
use Rattle.gem_tables.specs.Table.{firing}
use Rattle.gem_tables.specs.declared.firing.Firing.{Firing}
use Rattle.tool_tasks.specs.declared.task.Task.{Task}
use Rattle.tool_tasks.specs.declared.task.Task.TheVariants as task
use Rattle.robot_moves.specs.declared.module.Module.{Module}
use Rattle.robot_moves.specs.declared.module.Module.TheVariants.{Idle, Busy, Down}
use Rattle.robot_moves.specs.Modules.{module_at}
use Rattle.floor_model.specs.declared.tracked.Substrate.{Substrate}
use Rattle.floor_model.specs.Floor.{ToolFloor, substrate_numbered}
use Rattle.floor_model.specs.Substrates.{is_in_slot}
use Rattle.floor_model.specs.Modules.{number_named}
use Rattle.floor_model.specs.Naming.{module_names}
use Rattle.floor_model.specs.Jobs.{job_of, is_job_so, is_aborting}
use Rattle.floor_model.specs.Views.{goes_on}

-- the tool has no module of this number
abbrev pub is_no_module : ℕ → ToolFloor → Bool
is_no_module number f = not (is_some (module_at number f.modules))

-- a row of the table of moves at the module of a number
abbrev pub at_module : ℕ → ℕ → List Firing
at_module row number = firing 16 number row ∷ []

-- the row of a task that is done: 5 of Pick and Place, 6 of Align, 7 of Process
abbrev pub done_row : Task → ℕ
done_row (task.Pick sub from) = 5
done_row (task.Place sub to) = 5
done_row (task.Align sub) = 6
done_row (task.Process sub recipe) = 7

-- the row of processing of the substrate of a number, where one is given
abbrev pub at_processed : ℕ → Option ℕ → List Firing
at_processed row None = []
at_processed row (Some n) = firing 13 n row ∷ []

-- that of the substrate that a task processes
abbrev pub processed_rows : ℕ → Task → ToolFloor → List Firing
processed_rows row (task.Process sub recipe) f = at_processed row (number_named sub f.places)
processed_rows row _ f = []

-- the process job of a substrate that was looked for is ABORTING
abbrev pub is_of_aborting : Option Substrate → ToolFloor → Bool
is_of_aborting None f = false
is_of_aborting (Some s) f = is_job_so is_aborting (job_of s f.jobs)

-- the row of processing of the substrate of a number that was processed: 4 where its process job is ABORTING, else 3
abbrev pub done_processing : ℕ → ToolFloor → ℕ
done_processing n f = if is_of_aborting (substrate_numbered n f.substrates) f then 4 else 3

-- that row, where a substrate is given that doesn't go on to a further step of its route; one that does stays IN PROCESS
abbrev pub at_done : Option ℕ → ToolFloor → List Firing
at_done None f = []
at_done (Some n) f = if goes_on (substrate_numbered n f.substrates) f then [] else firing 13 n (done_processing n f) ∷ []

-- that of the substrate that a task processes
abbrev pub done_processed : Task → ToolFloor → List Firing
done_processed (task.Process sub recipe) f = at_done (number_named sub f.places) f
done_processed _ f = []

-- the direct rows of Done of the open command of a module: that of its task, and behind a Process row 4 of processing where the job is
-- ABORTING, and row 3 where the step was the last
abbrev pub done_at : ℕ → Option Module → ToolFloor → List Firing
done_at number (Some (Busy command fetched)) f = at_module (done_row command.task) number ++ done_processed command.task f
done_at number _ f = []

abbrev pub done_rows : ℕ → ToolFloor → List Firing
done_rows number f = done_at number (module_at number f.modules) f

-- the direct rows by which a module goes down, 8 or 9 of table 16; row 4 of processing where a Process was open
abbrev pub closing_at : ℕ → ℕ → Option Module → ToolFloor → List Firing
closing_at row number (Some (Busy command fetched)) f = at_module row number ++ processed_rows 4 command.task f
closing_at row number _ f = at_module row number

abbrev pub closing_rows : ℕ → ℕ → ToolFloor → List Firing
closing_rows row number f = closing_at row number (module_at number f.modules) f

-- ---- what the operator says

-- it is outside its slot, and no open command names it
abbrev pub can_be_lost : Option Substrate → ToolFloor → Bool
can_be_lost None f = false
can_be_lost (Some s) f = not (is_in_slot s f.places) && not (list_any (module_names s.sub) f.modules)

-- the rows of `lost` at the substrate of a number: row 8 of processing, where it can be (this tool's profile, operator words)
abbrev pub lost_at : Option ℕ → ToolFloor → List Firing
lost_at None f = []
lost_at (Some n) f = if can_be_lost (substrate_numbered n f.substrates) f then firing 13 n 8 ∷ [] else []

abbrev pub lost_rows : List ℕ → ToolFloor → List Firing
lost_rows sub f = lost_at (number_named sub f.places) f

-- the number of the open command of a module, 0 where it has none
abbrev pub open_number : Option Module → ℕ
open_number (Some (Busy command fetched)) = command.number.0
open_number _ = 0
