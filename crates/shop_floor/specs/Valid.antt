-- Facts that hold of the ports and the carriers at every moment.
use Rattle.std.specs.Prelude.{◌≡◌, ℕ, ◌+◌, ◌≤◌, Bool, true, not, ◌&&◌, ◌||◌, List, [], ◌∷◌, length, Option, Some, None, is_some}
use Rattle.std.specs.List.{AllByRecursion}
use Rattle.gem_ids.specs.declared.numbers.PortNo.{PortNo}
use Rattle.load_port.specs.declared.port.Port.{Port}
use Rattle.load_port.specs.Record.{is_associated}
use Rattle.load_port.specs.Ports.{most_ports, port_numbered}
use Rattle.carrier.specs.declared.carrier.Carrier.{Carrier}
use Rattle.carrier.specs.Record.{is_id_not_read, is_map_not_read}
use Rattle.carrier.specs.Carriers.{are_named_apart, absent_count, most_absent}
use Rattle.shop_floor.specs.Floor.{Floor}
use Rattle.shop_floor.specs.Rows.{owner}

-- the port of a number
abbrev pub port_of : Option PortNo → List Port → Option Port
port_of None ports = None
port_of (Some n) ports = port_numbered n.0 ports

-- a carrier that is present at a port, or bound to it, belongs to it
abbrev pub Belongs : List Port → Carrier → Type 0
Belongs ports c = (c.present || c.bound) ≡ true → owner (port_of c.port ports) ≡ Some c.name

-- the id of a carrier is not ID NOT READ any more, or its slot map not NOT READ
abbrev pub was_read : Carrier → Bool
was_read c = not (is_id_not_read c.states.id && is_map_not_read c.states.map)

-- only a carrier that is present was read (after SEMI E87; this tool's profile, tables 8 and 9)
abbrev pub ReadWherePresent : Carrier → Type 0
ReadWherePresent c = was_read c ≡ true → c.present ≡ true

-- a port is ASSOCIATED exactly where a carrier belongs to it
abbrev pub IsTold : Port → Type 0
IsTold p = is_associated p.states.association ≡ is_some p.carrier

-- the numbers of the carriers rise from the first one that may be given on, and are below the next
abbrev pub RiseFrom : ℕ → ℕ → List Carrier → Type 0
RiseFrom first next [] = first ≤ next
RiseFrom first next (c ∷ cs) = (first ≤ c.number) × RiseFrom (c.number + 1) next cs

-- Each name is that of one carrier, and so is each number; at most twelve carriers are not present; each that is present or bound
-- belongs to the port where it is; one that is not present is ID NOT READ, and its slot map NOT READ; and there are at most four
-- ports. So at most sixteen carriers are known.
pub record IsFloor (f : Floor) : Type 0 where
  pub apart : are_named_apart f.carriers ≡ true
  pub rising : RiseFrom 1 f.next_carrier f.carriers
  pub absent : absent_count f.carriers ≤ most_absent
  pub belong : AllByRecursion (Belongs f.ports) f.carriers
  pub read : AllByRecursion ReadWherePresent f.carriers
  pub told : AllByRecursion IsTold f.ports
  pub few : length f.ports ≤ most_ports
