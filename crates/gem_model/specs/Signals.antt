-- What the equipment tells of the load ports and the modules (after SEMI E87; this tool's profile, signals and direct rows).
use Rattle.std.specs.Prelude.{ℕ, ◌+◌, Bool, if◌then◌else◌, List, Option}
use Rattle.gem_tables.specs.Table.{firing}
use Rattle.load_port.specs.Ports.{is_no_port}
use Rattle.shop_floor.specs.Floor.{arrival_of, is_unloadable_port}
use Rattle.shop_floor.specs.Requests.{came, at_port, removal}
use Rattle.robot_moves.specs.declared.module.Module.{Module}
use Rattle.robot_moves.specs.Modules.{module_at, is_open, is_up}
use Rattle.floor_model.specs.Floor.{with_shop}
use Rattle.floor_model.specs.Signals.{is_no_module, done_rows, closing_rows}
use Rattle.tool_events.specs.declared.event.Signal.{Signal}
use Rattle.tool_events.specs.declared.event.Signal.TheVariants as signal
use Rattle.gem_model.specs.State.{State}
use Rattle.gem_model.specs.Machines.{row_starts}
use Rattle.gem_model.specs.Fire.{fire_listed}
use Rattle.gem_model.specs.Noting.{sets_alarm}

-- the tool has no port of this number
abbrev pub lacks_port : ℕ → State → Bool
lacks_port port g = is_no_port port g.floor.shop.ports

-- a row of table 4 starts at this port
abbrev pub port_row_starts : ℕ → ℕ → State → Bool
port_row_starts row port g = row_starts g (firing 4 port row)

-- the alarm of a carrier signal that a port doesn't expect (this tool's profile, alarms)
abbrev pub port_alarm : ℕ → ℕ
port_alarm port = 30 + port

-- what comes to a port, with the name that was read, if one was, and the map, is written there
abbrev pub with_arrival : ℕ → Option (List ℕ) → List ℕ → State → State
with_arrival port name slots g = record g { floor = with_shop (came port (arrival_of port name slots g.floor.shop.carriers) g.floor.shop) g.floor }

-- A carrier is placed: row 4.3, where it starts, and else the port's alarm is set alone (this tool's profile, direct rows).
abbrev pub placed : ℕ → Option (List ℕ) → List ℕ → State → State
placed port name slots g =
    if port_row_starts 3 port g then fire_listed (at_port 4 3 port) (with_arrival port name slots g) else sets_alarm (port_alarm port) g

-- A carrier is removed: rows 4.5 and 7.6, where the first starts, and else the port's alarm is set alone (this tool's profile,
-- direct rows).
abbrev pub removed : ℕ → State → State
removed port g = if port_row_starts 5 port g then fire_listed (removal port) g else sets_alarm (port_alarm port) g

-- ---- modules

-- the tool has no module of this number
abbrev pub lacks_module : ℕ → State → Bool
lacks_module number g = is_no_module number g.floor

-- the module of a number
abbrev pub module_of : ℕ → State → Option Module
module_of number g = module_at number g.floor.modules

-- the alarm of a module that is down (this tool's profile, alarms)
abbrev pub module_alarm : ℕ → ℕ
module_alarm number = 10 + number

-- the alarm of an answer to a command that isn't open (this tool's profile, alarms)
abbrev pub answer_alarm : ℕ
answer_alarm = 50

-- A module did a command: the row of its task, and behind a Process the row of processing, where there is one, where the command is the
-- module's open one, and else the alarm is set alone (this tool's profile, direct rows).
abbrev pub module_done : ℕ → ℕ → State → State
module_done number command g =
    if is_open command (module_of number g) then fire_listed (done_rows number g.floor) g else sets_alarm answer_alarm g

-- A module failed at a command: the module's alarm is set, and row 8 fires, and row 4 of processing where a Process was open, where the
-- command is the module's open one, and else
-- the alarm of the answer is set alone (this tool's profile, direct rows).
abbrev pub module_failed : ℕ → ℕ → State → State
module_failed number command g =
    if is_open command (module_of number g) then fire_listed (closing_rows 8 number g.floor) (sets_alarm (module_alarm number) g)
    else sets_alarm answer_alarm g

-- A module went down: where it was not Down, its alarm is set, and row 9 fires, and row 4 of processing where a Process was open (this
-- tool's profile, direct rows).
abbrev pub module_down : ℕ → State → State
module_down number g = if is_up (module_of number g) then fire_listed (closing_rows 9 number g.floor) (sets_alarm (module_alarm number) g) else g

-- What the equipment tells. A signal of a port or a module that the tool lacks changes nothing (this tool's profile, signals).
abbrev pub signalled : Signal → State → State
signalled (signal.Placed port name slots) g = if lacks_port port.0 g then g else placed port.0 name slots g
signalled (signal.Removed port) g = if lacks_port port.0 g then g else removed port.0 g
signalled (signal.Done number command) g = if lacks_module number.0 g then g else module_done number.0 command.0 g
signalled (signal.Failed number command) g = if lacks_module number.0 g then g else module_failed number.0 command.0 g
signalled (signal.Down number) g = if lacks_module number.0 g then g else module_down number.0 g

-- the port is READY TO UNLOAD
abbrev pub is_ready_to_unload : ℕ → State → Bool
is_ready_to_unload port g = is_unloadable_port port g.floor.shop.ports
