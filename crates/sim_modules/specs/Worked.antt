-- A module and its commands, for worked answers.
use Rattle.std.specs.Prelude.{ℕ, codes}
use Rattle.gem_ids.specs.declared.numbers.ModuleId.{ModuleId}
use Rattle.tool_tasks.specs.declared.task.Command.{Command}
use Rattle.tool_tasks.specs.declared.task.Task.TheVariants as task

-- the first chamber's module
abbrev pub third : ModuleId
third = record { 0 = 3 }

-- a command of this number, to process
abbrev pub process : ℕ → Command
process n = record { number = record { 0 = n }; task = task.Process (codes "CAR01.01") (codes "R1") }
