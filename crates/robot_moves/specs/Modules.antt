-- The modules of a tool and their commands (this tool's profile, moves).
use Rattle.std.specs.Prelude.{ℕ, zero, suc, ◌+◌, min, ◌==◌, Bool, true, false, if◌then◌else◌, List, replicate, Option, Some, None, slice_get}
use Rattle.gem_tables.specs.Table.{update_at}
use Rattle.gem_ids.specs.declared.numbers.CmdNo.{CmdNo}
use Rattle.tool_tasks.specs.declared.task.Command.{Command}
use Rattle.robot_moves.specs.declared.module.ModuleState.{ModuleState}
use Rattle.robot_moves.specs.declared.module.ModuleState.TheVariants as state
use Rattle.robot_moves.specs.declared.module.Module.{Module}
use Rattle.robot_moves.specs.declared.module.Module.TheVariants.{Idle, Busy, Down}
use Rattle.robot_moves.specs.declared.module.Step.{Step}
use Rattle.robot_moves.specs.declared.module.Step.TheVariants as step

-- ---- one module

-- its state in the table
abbrev pub state_of : Module → ModuleState
state_of Idle = state.Idle
state_of (Busy command fetched) = state.Busy
state_of Down = state.Down

-- an Idle module has this command, which isn't fetched yet
abbrev pub given : Command → Module → Module
given c Idle = Busy c false
given c (Busy command fetched) = Busy command fetched
given c Down = Down

-- its command was fetched, where it has one
abbrev pub taken : Module → Module
taken Idle = Idle
taken (Busy command fetched) = Busy command true
taken Down = Down

-- its open command is closed, where it has this number, and it is in this state then
abbrev pub closed : ℕ → Module → Module → Module
closed number next Idle = Idle
closed number next (Busy command fetched) = if command.number.0 == number then next else Busy command fetched
closed number next Down = Down

-- it is Down, and has no command
abbrev pub goes_down : Module → Module
goes_down m = Down

-- it is Idle, where it was Down
abbrev pub comes_up : Module → Module
comes_up Down = Idle
comes_up Idle = Idle
comes_up (Busy command fetched) = Busy command fetched

-- what a step does to it
abbrev pub stepped : Step → Module → Module
stepped (step.Give c) = given c
stepped step.Take = taken
stepped (step.Close number next) = closed number.0 next
stepped step.GoDown = goes_down
stepped step.ComeUp = comes_up

-- ---- the modules by their numbers: 1 is the robot, 2 the aligner, 2 + c chamber c

-- the number of a chamber's module
abbrev pub chamber_module : ℕ → ℕ
chamber_module c = suc (suc c)

-- the modules of a tool with so many chambers, each Idle; a module's number is 255 at most
abbrev pub first_modules : ℕ → List Module
first_modules chambers = replicate (2 + min chambers 253) Idle

-- the module of a number, counted from 1
abbrev pub module_at : ℕ → List Module → Option Module
module_at zero modules = None
module_at (suc n) modules = slice_get modules n

-- a change of the module of a number
abbrev pub change_module : ℕ → (Module → Module) → List Module → List Module
change_module zero change modules = modules
change_module (suc n) change modules = update_at n change modules

-- ---- what is said of one, where there is one

-- it is Idle
abbrev pub is_idle : Option Module → Bool
is_idle (Some Idle) = true
is_idle _ = false

-- it is Down
abbrev pub is_down : Option Module → Bool
is_down (Some Down) = true
is_down _ = false

-- it isn't Down
abbrev pub is_up : Option Module → Bool
is_up None = false
is_up (Some Down) = false
is_up _ = true

-- it has an open command of this number
abbrev pub is_open : ℕ → Option Module → Bool
is_open number (Some (Busy command fetched)) = command.number.0 == number
is_open number _ = false

-- its open command that isn't fetched yet
abbrev pub unfetched : Option Module → Option Command
unfetched (Some (Busy command fetched)) = if fetched then None else Some command
unfetched _ = None

-- the number of its open command that was fetched
abbrev pub fetched_number : Option Module → Option CmdNo
fetched_number (Some (Busy command fetched)) = if fetched then Some command.number else None
fetched_number _ = None
