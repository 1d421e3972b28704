-- The load ports and the carriers of the tool (after SEMI E87; this tool's profile, carriers).
use Rattle.std.specs.Prelude.{ℕ, ◌+◌, Bool, true, false, not, ◌&&◌, if◌then◌else◌, List, [], ◌∷◌, ◌++◌, codes, Option, Some, None}
use Rattle.std.specs.List.{list_any, starts_with}
use Rattle.std.specs.Prelude.{nat_eq}
use Rattle.load_port.specs.declared.port.Port.{Port}
use Rattle.load_port.specs.declared.port.Arrival.{Arrival}
use Rattle.load_port.specs.Record.{is_unloadable}
use Rattle.load_port.specs.Ports.{first_ports, port_numbered, change_port}
use Rattle.carrier.specs.declared.carrier.Carrier.{Carrier}
use Rattle.carrier.specs.Carriers.{has_name, change_numbered, marked_stopped}

-- the ports in the order of their numbers, the carriers in the order in which they were created, and the number that the next
-- carrier gets
pub record Floor : Type 0 where
  pub ports : List Port
  pub carriers : List Carrier
  pub next_carrier : ℕ

-- the number behind which there is no other
abbrev pub last_number : ℕ
last_number = 18446744073709551615

-- the three together
abbrev pub floor_of : List Port → List Carrier → ℕ → Floor
floor_of ports carriers next = record { ports = ports; carriers = carriers; next_carrier = next }

-- so many ports, without a carrier; the first one gets the number 1
abbrev pub opening : ℕ → Floor
opening ports = floor_of (first_ports ports) [] 1

-- a change of the port of a number, counted from 1
abbrev pub with_port : ℕ → (Port → Port) → Floor → Floor
with_port number change f = record f { ports = change_port number change f.ports }

-- a change of the carrier of a number of creation
abbrev pub with_carrier : ℕ → (Carrier → Carrier) → Floor → Floor
with_carrier number change f = record f { carriers = change_numbered number change f.carriers }

-- the carrier of a name is marked stopped, where one is known
abbrev pub with_marked : List ℕ → Floor → Floor
with_marked name f = record f { carriers = marked_stopped name f.carriers }

-- the numbers of the ports, the first of which is given
abbrev pub numbers_from : ℕ → List Port → List ℕ
numbers_from n [] = []
numbers_from n (p ∷ ps) = n ∷ numbers_from (n + 1) ps

-- the number of a carrier
abbrev pub number_of : Carrier → ℕ
number_of c = c.number

-- the port of a number is READY TO UNLOAD
abbrev pub is_unloadable_port : ℕ → List Port → Bool
is_unloadable_port number ports = of (port_numbered number ports)
  where
    of : Option Port → Bool
    of None = false
    of (Some p) = is_unloadable p.states.transfer

-- ---- names

-- a decimal digit, in ASCII
abbrev pub digit : ℕ → ℕ
digit n = 48 + n

-- the name of a port, of which there are fewer than ten; empty where there is none (this tool's profile, object names)
abbrev pub port_name : ℕ → Option Port → List ℕ
port_name port None = []
port_name port (Some p) = codes "P" ++ digit port ∷ []

-- the name of a carrier, empty where there is none
abbrev pub carrier_name : Option Carrier → List ℕ
carrier_name None = []
carrier_name (Some c) = c.name

-- the names that the tool gives begin so (this tool's profile, carriers)
abbrev pub unread : List ℕ
unread = codes "UNREAD-"

-- the name of a carrier at a port that has no other
abbrev pub unread_name : ℕ → List ℕ
unread_name port = unread ++ digit port ∷ []

-- a present carrier has this name
abbrev pub is_present : List ℕ → List Carrier → Bool
is_present name carriers = list_any (λ c. has_name name c && c.present) carriers

-- a name that was read is the carrier's, but for one that begins as those that the tool gives, and for that of a carrier that
-- is present (this tool's profile, carriers)
abbrev pub is_taken_as_read : List ℕ → List Carrier → Bool
is_taken_as_read name carriers = not (starts_with nat_eq name unread) && not (is_present name carriers)

-- a carrier that comes to this port, with the name that was read, if one was, and its map (this tool's profile, carriers)
abbrev pub arrival_of : ℕ → Option (List ℕ) → List ℕ → List Carrier → Arrival
arrival_of port None slots carriers = record { name = unread_name port; is_read = false; map = slots }
arrival_of port (Some name) slots carriers =
    if is_taken_as_read name carriers then record { name = name; is_read = true; map = slots }
    else record { name = unread_name port; is_read = false; map = slots }
