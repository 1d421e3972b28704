-- Which substrates open commands name (this tool's profile, moves).
use Rattle.std.specs.Prelude.{ℕ, Bool, false, List}
use Rattle.std.specs.Str.{bytes_eq}
use Rattle.tool_tasks.specs.declared.task.Task.{Task}
use Rattle.tool_tasks.specs.declared.task.Task.TheVariants as task
use Rattle.robot_moves.specs.declared.module.Module.{Module}
use Rattle.robot_moves.specs.declared.module.Module.TheVariants.{Idle, Busy, Down}

-- the substrate that a task names
abbrev pub named_by : Task → List ℕ
named_by (task.Pick sub from) = sub
named_by (task.Place sub to) = sub
named_by (task.Align sub) = sub
named_by (task.Process sub recipe) = sub

-- an open command of a module names the substrate
abbrev pub module_names : List ℕ → Module → Bool
module_names sub (Busy command fetched) = bytes_eq (named_by command.task) sub
module_names sub _ = false

-- a task processes the substrate of this name
abbrev pub task_processes : List ℕ → Task → Bool
task_processes sub (task.Process name recipe) = bytes_eq name sub
task_processes sub _ = false

-- a module has an open command that does
abbrev pub processes : List ℕ → Module → Bool
processes sub (Busy command fetched) = task_processes sub command.task
processes sub _ = false
