-- What the rows of the table of moves want and do (this tool's profile, table 16). The table is in robot_moves.
use Rattle.std.specs.Prelude.{ℕ, ◌+◌, ◌==◌, nat_lt, ◌&&◌, if◌then◌else◌, Bool, true, false, List, Option, Some, None, option_map}
use Rattle.gem_tables.specs.Table.{after, may_fire, first_itself}
use Rattle.tool_tasks.specs.declared.task.Task.{Task}
use Rattle.tool_tasks.specs.declared.task.Task.TheVariants as task
use Rattle.robot_moves.specs.Tables as want
use Rattle.robot_moves.specs.Tables.{MoveWant, MoveEffect, MoveRow, move_table, state_number}
use Rattle.robot_moves.specs.Modules.{state_of, given, module_at, change_module}
use Rattle.robot_moves.specs.declared.view.Move.{Move}
use Rattle.gem_ids.specs.declared.numbers.LocId.{LocId}
use Rattle.gem_ids.specs.declared.numbers.LocId.TheVariants.{Arm}
use Rattle.tool_tasks.specs.declared.task.Command.{Command}
use Rattle.substrate.specs.Locations.{is_location}
use Rattle.substrate.specs.Places.{PlaceMap, substrate_named, shifted}
use Rattle.floor_model.specs.declared.tracked.Substrate.{Substrate}
use Rattle.tool_tasks.specs.Routes.{most_steps}
use Rattle.floor_model.specs.Floor.{ToolFloor, substrate_numbered, change_numbered}
use Rattle.floor_model.specs.Views.{goes_on}
use Rattle.robot_moves.specs.declared.module.Module.{Module}
use Rattle.robot_moves.specs.declared.module.Module.TheVariants.{Idle, Busy, Down}
use Rattle.robot_moves.specs.declared.module.ModuleState.{ModuleState}
use Rattle.robot_moves.specs.declared.module.ModuleState.TheVariants as state

-- ---- what is done

-- a substrate is picked or placed
abbrev pub is_transfer : Task → Bool
is_transfer (task.Pick sub from) = true
is_transfer (task.Place sub to) = true
is_transfer _ = false

-- a substrate is aligned
abbrev pub is_align : Task → Bool
is_align (task.Align sub) = true
is_align _ = false

-- a substrate is processed
abbrev pub is_process : Task → Bool
is_process (task.Process sub recipe) = true
is_process _ = false

-- the module has an open command, of such a task
abbrev pub does : (Task → Bool) → Module → Bool
does test (Busy command fetched) = test command.task
does test _ = false

-- ---- the rows

-- a move is by the row of this number
abbrev pub is_by : ℕ → Option Move → Bool
is_by row None = false
is_by row (Some m) = m.row == row

-- what a row wants is so of a module, by what it is to do
abbrev pub move_wants : MoveWant → Option Move → Module → Bool
move_wants want.nothing_more plan m = true
move_wants want.target_free plan m = is_by 1 plan
move_wants want.pick_useful plan m = is_by 2 plan
move_wants want.align_wanted plan m = is_by 3 plan
move_wants want.process_wanted plan m = is_by 4 plan
move_wants want.move_open plan m = does is_transfer m
move_wants want.align_open plan m = does is_align m
move_wants want.process_open plan m = does is_process m

-- the row of a number starts at a module
abbrev pub move_starts : ℕ → Option Move → Option Module → Bool
move_starts row plan None = false
move_starts row plan (Some m) = may_fire state_number (λ want. move_wants want plan m) move_table row (state_of m)

-- the least row that is ready by itself at a module
abbrev pub move_ready : Option Move → Option Module → Option ℕ
move_ready plan None = None
move_ready plan (Some m) = first_itself state_number (λ want. move_wants want plan m) move_table (state_of m)

-- the module in this state: its command is closed where it is not Busy
abbrev pub in_state : ModuleState → Module → Module
in_state state.Idle m = Idle
in_state state.Busy m = m
in_state state.Down m = Down

-- the module behind the row of a number
abbrev pub module_behind : ℕ → Module → Module
module_behind row m = in_state (after state_number move_table row (state_of m)) m

-- ---- what the rows do besides the state of their module

-- a command under a number
abbrev pub command : ℕ → Task → Command
command number what = record { number = record { 0 = number }; task = what }

-- a move is given to the module of a number, as a command under the next number
abbrev pub issued : ℕ → Option Move → ToolFloor → ToolFloor
issued number None f = f
issued number (Some m) f =
    record f { modules = change_module number (given (command (f.commands + 1) m.task)) f.modules; commands = f.commands + 1 }

-- the task of the open command of a module
abbrev pub open_task : Option Module → Option Task
open_task (Some (Busy c fetched)) = Some c.task
open_task _ = None

-- a substrate goes from a place of the tool to another
abbrev pub goes : List ℕ → LocId → LocId → PlaceMap → PlaceMap
goes sub from to p = if is_location p.ports p.chambers from && is_location p.ports p.chambers to then shifted sub from to p else p

-- what is done by a Pick goes from the named start onto the arm, and what is done by a Place from the arm to the named end
abbrev pub transferred : Option Task → PlaceMap → PlaceMap
transferred (Some (task.Pick sub from)) p = goes sub from Arm p
transferred (Some (task.Place sub to)) p = goes sub Arm to p
transferred _ p = p

-- the number of registration of the substrate of a name that has a place
abbrev pub number_named : List ℕ → PlaceMap → Option ℕ
number_named sub p = option_map (λ r. r.number) (substrate_named sub p.held)

-- it is aligned
abbrev pub aligned : Substrate → Substrate
aligned s = record s { aligned = true }

-- the substrate of a number is, where one is given
abbrev pub aligned_numbered : Option ℕ → List Substrate → List Substrate
aligned_numbered None ss = ss
aligned_numbered (Some n) ss = change_numbered n aligned ss

-- what is done by an Align is aligned
abbrev pub aligned_by : Option Task → ToolFloor → ToolFloor
aligned_by (Some (task.Align sub)) f = record f { substrates = aligned_numbered (number_named sub f.places) f.substrates }
aligned_by _ f = f

-- one step more of a route is done; it has at most six
abbrev pub one_more : ℕ → ℕ
one_more steps = if nat_lt steps most_steps then steps + 1 else steps

-- the next step of a substrate is done
abbrev pub stepped : Substrate → Substrate
stepped s = record s { steps = one_more s.steps }

-- that of the substrate of a number is, where one is given that goes on to a further step
abbrev pub stepped_numbered : Option ℕ → ToolFloor → List Substrate
stepped_numbered None f = f.substrates
stepped_numbered (Some n) f = if goes_on (substrate_numbered n f.substrates) f then change_numbered n stepped f.substrates else f.substrates

-- what is done by a Process has the step done, where it isn't the last and its job isn't ABORTING
abbrev pub stepped_by : Option Task → ToolFloor → ToolFloor
stepped_by (Some (task.Process sub recipe)) f = record f { substrates = stepped_numbered (number_named sub f.places) f }
stepped_by _ f = f

-- what the word of a row says
abbrev pub move_does : MoveEffect → ℕ → Option Move → ToolFloor → ToolFloor
move_does want.no_more number plan f = f
move_does want.issues_place number plan f = issued number plan f
move_does want.issues_pick number plan f = issued number plan f
move_does want.issues_align number plan f = issued number plan f
move_does want.issues_process number plan f = issued number plan f
move_does want.moves number plan f = record f { places = transferred (open_task (module_at number f.modules)) f.places }
move_does want.aligns number plan f = aligned_by (open_task (module_at number f.modules)) f
move_does want.steps number plan f = stepped_by (open_task (module_at number f.modules)) f
move_does want.closes number plan f = f
move_does want.clears_alarm number plan f = f

-- of a row that was looked for: one that is not there does nothing
abbrev pub found_move : Option MoveRow → ℕ → Option Move → ToolFloor → ToolFloor
found_move None number plan f = f
found_move (Some r) number plan f = move_does r.does number plan f
