-- What holds of the load ports and of the carriers at them, besides what the shop floor says (after SEMI E87; this tool's profile,
-- tables 4 and 7): where a carrier is present, what came to a port and is not told of yet, and that the carrier at a port that is
-- READY TO UNLOAD may be taken away.
use Rattle.std.specs.Prelude.{◌≡◌, ℕ, Bool, true, false, not, ◌&&◌, List, Option, Some, None, is_some, nat_eq}
use Rattle.std.specs.List.{AllByRecursion, starts_with}
use Rattle.load_port.specs.declared.port.Port.{Port}
use Rattle.load_port.specs.declared.port.Arrival.{Arrival}
use Rattle.load_port.specs.Record.{is_occupied, is_blocked, is_unloadable}
use Rattle.load_port.specs.Ports.{port_numbered}
use Rattle.carrier.specs.declared.carrier.Carrier.{Carrier}
use Rattle.carrier.specs.Record.{is_id_verified, is_map_not_read}
use Rattle.carrier.specs.Carriers.{is_port, is_finished}
use Rattle.shop_floor.specs.Floor.{Floor, is_present, unread, unread_name}
use Rattle.shop_floor.specs.Valid.{port_of}

-- ---- a carrier that is present

-- a carrier can be present at such a port: it is TRANSFER BLOCKED or READY TO UNLOAD, and nothing came to it that is not told of yet
abbrev pub is_held : Option Port → Bool
is_held None = false
is_held (Some p) = is_occupied p.states.transfer && not (is_some p.arrival)

-- a carrier that is present is at such a port
abbrev pub IsAtPort : List Port → Carrier → Type 0
IsAtPort ports c = c.present ≡ true → is_held (port_of c.port ports) ≡ true

-- a name that begins as those that the tool gives is the one that it gives at this port
abbrev pub IsItsName : ℕ → List ℕ → Type 0
IsItsName port name = starts_with nat_eq name unread ≡ true → name ≡ unread_name port

-- so is that of a carrier that is present
abbrev pub IsNamedHere : Carrier → Type 0
IsNamedHere c = c.present ≡ true → (port : ℕ) → is_port port c.port ≡ true → IsItsName port c.name

-- ---- what came

-- What came to the port of a number and is not told of yet: the port is TRANSFER BLOCKED, no carrier of its name is present, and the
-- carrier that belongs to the port isn't either.
pub record IsAwaited (carriers : List Carrier) (port : ℕ) (p : Port) (a : Arrival) : Type 0 where
  pub blocked : is_blocked p.states.transfer ≡ true
  pub new : is_present a.name carriers ≡ false
  pub named : IsItsName port a.name
  pub owner : (name : List ℕ) → p.carrier ≡ Some name → is_present name carriers ≡ false

-- ---- all of it

-- what holds of them at every moment, but between two direct rows of one input
pub record AtPorts (f : Floor) : Type 0 where
  pub at : AllByRecursion (IsAtPort f.ports) f.carriers
  pub named : AllByRecursion IsNamedHere f.carriers
  pub awaited : (port : ℕ) (p : Port) (a : Arrival) → port_numbered port f.ports ≡ Some p → p.arrival ≡ Some a → IsAwaited f.carriers port p a
  -- something is awaited at one port at most
  pub alone : (n m : ℕ) (p q : Port) → port_numbered n f.ports ≡ Some p → port_numbered m f.ports ≡ Some q → is_some p.arrival ≡ true → is_some q.arrival ≡ true → n ≡ m

-- ---- what may be taken away

-- there is such a port, and it is READY TO UNLOAD
abbrev pub unloads : Option Port → Bool
unloads None = false
unloads (Some p) = is_unloadable p.states.transfer

-- a carrier that is present at such a port has finished
abbrev pub IsFinishedThere : List Port → Carrier → Type 0
IsFinishedThere ports c = c.present ≡ true → unloads (port_of c.port ports) ≡ true → is_finished c.states ≡ true

-- a slot map that is not NOT READ is that of a carrier whose id is VERIFIED
abbrev pub IsReadById : Carrier → Type 0
IsReadById c = is_map_not_read c.states.map ≡ false → is_id_verified c.states.id ≡ true

-- both hold of each carrier at every moment
pub record Unloading (f : Floor) : Type 0 where
  pub finished : AllByRecursion (IsFinishedThere f.ports) f.carriers
  pub by_id : AllByRecursion IsReadById f.carriers
