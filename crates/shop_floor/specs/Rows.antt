-- What rows of ports want and do besides the states of their port (after SEMI E87; this tool's profile, tables 4 to 7). Their
-- tables name it by a word, in load_port.
use Rattle.std.specs.Prelude.{ℕ, Bool, true, false, not, ◌&&◌, if◌then◌else◌, List, [], ◌∷◌, find, Option, Some, None, is_some}
use Rattle.std.specs.List.{list_any}
use Rattle.std.specs.Str.{bytes_eq}
use Rattle.gem_tables.specs.Table.{firing}
use Rattle.gem_tables.specs.declared.firing.Firing.{Firing}
use Rattle.load_port.specs.Tables as word
use Rattle.load_port.specs.Tables.{PortWant, PortEffect, PortRow, association_table}
use Rattle.load_port.specs.declared.port.Port.{Port}
use Rattle.load_port.specs.declared.port.Arrival.{Arrival}
use Rattle.load_port.specs.Record.{is_occupied}
use Rattle.load_port.specs.Ports.{port_numbered, change_port}
use Rattle.carrier.specs.declared.carrier.Carrier.{Carrier}
use Rattle.carrier.specs.Carriers.{has_name, is_known, is_port, is_present_at, is_finished, change_named, found_or_created, next_number, without, came_to, binds}
use Rattle.shop_floor.specs.Floor.{Floor, with_port}

-- ---- what they want

-- the carrier at the port may be taken away
abbrev pub has_finished : ℕ → List Carrier → Bool
has_finished port carriers = list_any (λ c. is_present_at port c && is_finished c.states) carriers

-- the carrier waits to be bound to this port
abbrev pub is_directed : ℕ → Carrier → Bool
is_directed port c = is_port port c.port && (not c.present && not c.bound)

-- what came is the port's carrier
abbrev pub is_own : Option (List ℕ) → Option Arrival → Bool
is_own (Some name) (Some a) = bytes_eq name a.name
is_own _ _ = false

-- the port's carrier is present at another port
abbrev pub is_elsewhere : ℕ → Option (List ℕ) → List Carrier → Bool
is_elsewhere port None carriers = false
is_elsewhere port (Some name) carriers = list_any (λ c. has_name name c && (c.present && not (is_port port c.port))) carriers

-- what a row wants is so of the port of this number
abbrev pub port_wants : PortWant → ℕ → Port → List Carrier → Bool
port_wants word.nothing_more port p carriers = true
port_wants word.carrier_finished port p carriers = has_finished port carriers
port_wants word.carrier_present port p carriers = is_occupied p.states.transfer
port_wants word.carrier_directed port p carriers = is_some (find (is_directed port) carriers)
port_wants word.carrier_came port p carriers = is_some p.arrival
port_wants word.other_came port p carriers = is_some p.arrival && not (is_own p.carrier p.arrival)
port_wants word.own_came port p carriers = is_own p.carrier p.arrival
port_wants word.own_elsewhere port p carriers = is_elsewhere port p.carrier carriers

-- ---- what they do

-- no carrier belongs to the port
abbrev pub freed : Port → Port
freed p = record p { carrier = None }

-- this carrier belongs to the port
abbrev pub owned_by : List ℕ → Port → Port
owned_by name p = record p { carrier = Some name }

-- this carrier belongs to the port, and what came there is told of
abbrev pub taken_by : List ℕ → Port → Port
taken_by name p = record p { carrier = Some name; arrival = None }

-- the carrier that belongs to a port
abbrev pub owner : Option Port → Option (List ℕ)
owner None = None
owner (Some p) = p.carrier

-- the carrier that came to a port
abbrev pub arrival_at : Option Port → Option Arrival
arrival_at None = None
arrival_at (Some p) = p.arrival

-- the carrier that waits belongs to the port, and is bound to it
abbrev pub bound_to : ℕ → Option Carrier → Floor → Floor
bound_to port None f = f
bound_to port (Some c) f =
    record f { ports = change_port port (owned_by c.name) f.ports; carriers = change_named c.name binds f.carriers }

-- the first carrier that waits to be bound to the port is
abbrev pub binding : ℕ → Floor → Floor
binding port f = bound_to port (find (is_directed port) f.carriers) f

-- the carrier of a name is forgotten
abbrev pub forgets : Option (List ℕ) → List Carrier → List Carrier
forgets None cs = cs
forgets (Some name) cs = without name cs

-- the port's carrier is forgotten, and goes on to belong to it
abbrev pub without_owner : ℕ → Floor → Floor
without_owner port f = record f { carriers = forgets (owner (port_numbered port f.ports)) f.carriers }

-- the port's carrier is forgotten, and none belongs to it
abbrev pub forgetting : ℕ → Floor → Floor
forgetting port f =
    record f { ports = change_port port freed f.ports; carriers = forgets (owner (port_numbered port f.ports)) f.carriers }

-- what came to the port belongs to it, and is present there with its map; it is created where it isn't known
abbrev pub arrived : ℕ → Option Arrival → Floor → Floor
arrived port None f = f
arrived port (Some a) f =
    record f {
      ports = change_port port (taken_by a.name) f.ports;
      carriers = change_named a.name (came_to port a.is_read a.map) (found_or_created f.next_carrier a.name f.carriers);
      next_carrier = next_number f.next_carrier a.name f.carriers;
    }

abbrev pub arriving : ℕ → Floor → Floor
arriving port f = arrived port (arrival_at (port_numbered port f.ports)) f

-- what a row does
abbrev pub port_does : PortEffect → ℕ → Floor → Floor
port_does word.no_more port f = f
port_does word.binds port f = binding port f
port_does word.forgets port f = forgetting port f
port_does word.arrives port f = arriving port f
port_does word.replaces port f = arriving port (without_owner port f)
port_does word.frees port f = with_port port freed f

-- ---- what they create

-- a carrier came whose name isn't known
abbrev pub is_new : Option Arrival → List Carrier → Bool
is_new None cs = false
is_new (Some a) cs = not (is_known a.name cs)

-- the creation row of what came, where it isn't known
abbrev pub creation_of_arrival : Option Arrival → Floor → List Firing
creation_of_arrival arrival f = if is_new arrival f.carriers then firing 8 f.next_carrier 1 ∷ [] else []

-- the rows of the carrier that a row creates (this tool's profile, settling)
abbrev pub port_creates : PortEffect → ℕ → Floor → List Firing
port_creates word.arrives port f = creation_of_arrival (arrival_at (port_numbered port f.ports)) f
port_creates word.replaces port f = creation_of_arrival (arrival_at (port_numbered port f.ports)) f
port_creates _ port f = []

-- ---- of a row that was looked for

module _ {S : Type 0} where
  -- one that isn't there does nothing
  abbrev pub found_does : Option (PortRow S) → ℕ → Floor → Floor
  found_does None port f = f
  found_does (Some r) port f = port_does r.does port f

  -- it creates nothing
  abbrev pub found_creates : Option (PortRow S) → ℕ → Floor → List Firing
  found_creates None port f = []
  found_creates (Some r) port f = port_creates r.does port f
