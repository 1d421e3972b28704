-- The values of variables: what S1F3, S2F13 and reports give (SEMI E5, S1F3 and S2F13; this tool's profile, variables).
use Rattle.std.specs.Prelude.{ℕ, ◌==◌, if◌then◌else◌, List, [], ◌∷◌, length, filter, Option, Some, None, is_some, option_map, unwrap_or}
use Rattle.gem_ids.specs.declared.numbers.LocId.{LocId}
use Rattle.gem_ids.specs.declared.numbers.LocId.TheVariants as loc
use Rattle.civil_time.specs.Civil.{time_digits}
use Rattle.gem_states.specs.Communication.{comm_number}
use Rattle.gem_states.specs.Control.{control_number}
use Rattle.item_model.specs.Data.{Data, ascii, u1, u2, u4}
use Rattle.data_variables.specs.Bodies.{value_item}
use Rattle.data_variables.specs.Values as constants
use Rattle.event_reports.specs.Alarms.{set_alids}
use Rattle.spool.specs.Spool.{load_number, unload_number}
use Rattle.load_port.specs.declared.port.Port.{Port}
use Rattle.load_port.specs.Tables.{transfer_number, access_number}
use Rattle.load_port.specs.Ports.{port_numbered}
use Rattle.substrate.specs.Locations.{is_location}
use Rattle.substrate.specs.Places.{substrate_at}
use Rattle.gem_rows.specs.Variables.{status_variable, status_vids}
use Rattle.gem_rows.specs.declared.variables.StatusVariable.{StatusVariable}
use Rattle.gem_rows.specs.declared.variables.StatusVariable.TheVariants as status
use Rattle.gem_model.specs.State.{State, clock_now}

-- what is happening while a value is asked: the object and the row of a firing, which EventObject and EventRow tell; the row
-- is 100 times its table plus its number (this tool's profile, variables)
pub record Occasion : Type 0 where
  pub object : List ℕ
  pub row : ℕ

-- outside a firing EventObject is empty and EventRow is 0 (this tool's profile, variables)
abbrev pub no_firing : Occasion
no_firing = record { object = []; row = 0 }

-- what the port of a number shows, where the tool has it
abbrev pub port_value : State → ℕ → (Port → Data) → Option Data
port_value g number value = option_map value (port_numbered number g.floor.shop.ports)

-- the name of the substrate at a location, empty where none is there (this tool's profile, variables)
abbrev pub substrate_text : State → LocId → List ℕ
substrate_text g place = unwrap_or (substrate_at place g.floor.places.held) []

-- what tells which substrate is at a location, where the tool has it (this tool's profile, variables)
abbrev pub place_value : State → LocId → Option Data
place_value g place = if is_location g.config.ports g.config.chambers place then Some (ascii (substrate_text g place)) else None

-- the value of a status variable; none for one of a port or a chamber that the tool lacks (this tool's profile, variables)
abbrev pub variable_value : State → StatusVariable → Option Data
variable_value g status.Clock = Some (ascii (time_digits (clock_now g)))
variable_value g status.CommState = Some (u1 (comm_number g.comm ∷ []))
variable_value g status.ControlState = Some (u1 (control_number g.control ∷ []))
variable_value g status.SpoolCountActual = Some (u4 (length g.line.spool.notes ∷ []))
variable_value g status.SpoolCountTotal = Some (u4 (g.line.spool.total ∷ []))
variable_value g status.SpoolLoad = Some (u1 (load_number g.line.spool.load ∷ []))
variable_value g status.SpoolUnload = Some (u1 (unload_number g.line.spool.unload ∷ []))
variable_value g status.AlarmsSet = Some (u4 (set_alids g.alarms))
variable_value g status.ArmSubstrate = place_value g loc.Arm
variable_value g status.AlignerSubstrate = place_value g loc.Aligner
variable_value g (status.ChamberSubstrate chamber) = place_value g (loc.Chamber chamber)
variable_value g (status.PortTransfer port) = port_value g port (λ p. u1 (transfer_number p.states.transfer ∷ []))
variable_value g (status.PortAccess port) = port_value g port (λ p. u1 (access_number p.states.access ∷ []))
-- empty where no carrier belongs to the port
variable_value g (status.PortCarrier port) = port_value g port (λ p. ascii (unwrap_or p.carrier []))
-- those that are kept; a control job that is COMPLETED is, until it is replaced
variable_value g status.ProcessJobCount = Some (u2 (length g.floor.jobs.process.kept ∷ []))
variable_value g status.ControlJobCount = Some (u2 (length g.floor.jobs.control.jobs ∷ []))

-- the value of the variable that a number is, where it is one
abbrev pub value_by : State → Option StatusVariable → Option Data
value_by g None = None
value_by g (Some variable) = variable_value g variable

-- the value of the status variable of a number; none for a number that is none of one that the tool has (SEMI E5, S1F3)
abbrev pub status_value : State → ℕ → Option Data
status_value g vid = value_by g (status_variable vid)

-- the numbers of the status variables that have a value, as printed
abbrev pub svids : State → List ℕ
svids g = filter (λ vid. is_some (status_value g vid)) status_vids

-- EventObject and EventRow: what the data variable of a number shows (this tool's profile, variables)
abbrev pub event_value : Occasion → ℕ → Option Data
event_value o vid = if vid == 100 then Some (ascii o.object) else (if vid == 101 then Some (u2 (o.row ∷ [])) else None)

-- the value of a constant (this tool's profile, constants)
abbrev pub constant_value : State → ℕ → Option Data
constant_value g ecid = option_map value_item (constants.value_of ecid g.constants)

-- the first value that is there
abbrev pub or_else : Option Data → Option Data → Option Data
or_else None other = other
or_else (Some d) other = Some d

-- the value of each variable that a report may name; none for one that the tool lacks, or that is not known
-- (this tool's profile, variables)
abbrev pub value_of : Occasion → State → ℕ → Option Data
value_of o g vid = or_else (status_value g vid) (or_else (event_value o vid) (constant_value g vid))
