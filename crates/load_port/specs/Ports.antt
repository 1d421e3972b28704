-- The load ports of a tool, in the order of their numbers, and what the host is answered of them (after SEMI E87; this
-- tool's profile, S3F25 and S3F27).
use Rattle.std.specs.Prelude.{ℕ, zero, suc, ◌==◌, Bool, false, not, ◌||◌, nat_lt, if◌then◌else◌, List, [], ◌∷◌, length, Option, Some, None, slice_get}
use Rattle.std.specs.List.{list_any}
use Rattle.gem_tables.specs.Table.{update_at}
use Rattle.load_port.specs.Record.{first_record, port_starts, port_fired, is_occupied, is_in_service, is_reserved}
use Rattle.load_port.specs.declared.caack.Caack.{Caack}
use Rattle.load_port.specs.declared.caack.Caack.TheVariants as caack
use Rattle.load_port.specs.declared.port.Port.{Port}
use Rattle.load_port.specs.declared.action.PortView.{PortView}
use Rattle.load_port.specs.declared.action.PortAction.{PortAction}
use Rattle.load_port.specs.declared.action.PortAction.TheVariants as action

-- ---- the ports

-- a port as it begins: no carrier belongs to it, and none came
abbrev pub first_port : Port
first_port = record { states = first_record; carrier = None; arrival = None }

-- so many ports
abbrev pub first_ports : ℕ → List Port
first_ports zero = []
first_ports (suc n) = first_port ∷ first_ports n

-- the most ports of a tool (this tool's profile, variables)
abbrev pub most_ports : ℕ
most_ports = 4

-- the port of a number, counted from 1
abbrev pub port_numbered : ℕ → List Port → Option Port
port_numbered zero ports = None
port_numbered (suc n) ports = slice_get ports n

-- a change of the port of a number; where there is none, nothing changes
abbrev pub change_port : ℕ → (Port → Port) → List Port → List Port
change_port zero change ports = ports
change_port (suc n) change ports = update_at n change ports

-- the states of a port change by a row
abbrev pub fires_row : ℕ → ℕ → Port → Port
fires_row table row p = record p { states = port_fired table row p.states }

-- the row starts at the port, where there is one
abbrev pub starts_row : ℕ → ℕ → Option Port → Bool
starts_row table row None = false
starts_row table row (Some p) = port_starts table row p.states

-- what the carriers are told of a port (after SEMI E87)
abbrev pub view_of : Port → PortView
view_of p = record { present = is_occupied p.states.transfer; in_service = is_in_service p.states.transfer; carrier = p.carrier }

-- ---- S3F25 and S3F27

-- the number is that of no port
abbrev pub is_no_port : ℕ → List Port → Bool
is_no_port number ports = (number == 0) || nat_lt (length ports) number

-- ReserveAtPort: impossible where the port is reserved or OUT OF SERVICE, or a carrier is present (this tool's profile, S3F25)
abbrev pub reserve_code : Option Port → Caack
reserve_code None = caack.Faulty
reserve_code (Some p) =
    if is_reserved p.states.reservation || (not (is_in_service p.states.transfer) || is_occupied p.states.transfer) then caack.Impossible else caack.Done

-- CancelReservationAtPort: impossible where the port isn't reserved (this tool's profile, S3F25)
abbrev pub cancel_code : Option Port → Caack
cancel_code None = caack.Faulty
cancel_code (Some p) = if is_reserved p.states.reservation then caack.Done else caack.Impossible

-- S3F27: faulty for a mode other than 0 and 1, and for a port that isn't there; no port at all is all (this tool's profile, S3F27)
abbrev pub access_code : ℕ → List ℕ → List Port → Caack
access_code mode numbers ports = if nat_lt 1 mode || list_any (λ n. is_no_port n ports) numbers then caack.Faulty else caack.Done

-- what is answered of an action on ports, by the states before it (SEMI E87, S3F26 and S3F28; this tool's profile)
abbrev pub port_caack : List Port → PortAction → Caack
port_caack ports (action.Reserve port) = reserve_code (port_numbered port ports)
port_caack ports (action.CancelReserve port) = cancel_code (port_numbered port ports)
port_caack ports (action.Access mode numbers) = access_code mode numbers ports
port_caack ports action.Unknown = caack.Unknown
