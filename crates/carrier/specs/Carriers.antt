-- The carriers that the tool knows, in the order in which they were created (after SEMI E87; this tool's profile, carriers).
use Rattle.std.specs.Prelude.{◌≡◌, ℕ, ◌+◌, ◌==◌, ◌≤◌, Bool, true, false, not, ◌&&◌, ◌||◌, if◌then◌else◌, List, [], ◌∷◌, ◌++◌, length, position, Option, Some, None}
use Rattle.std.specs.List.{list_all, filter}
use Rattle.std.specs.Str.{bytes_eq}
use Rattle.records.specs.Names as named
use Rattle.records.specs.Numbers as numbered
use Rattle.carrier.specs.Tables.{id_number, map_number, access_number}
use Rattle.carrier.specs.Record.{first_record, carrier_starts, carrier_fired, is_id_failed, is_map_failed, is_done}
use Rattle.carrier.specs.declared.record.CarrierRecord.{CarrierRecord}
use Rattle.carrier.specs.declared.carrier.Carrier.{Carrier}
use Rattle.carrier.specs.declared.carrier.CarrierView.{CarrierView}
use Rattle.gem_ids.specs.declared.numbers.PortNo.{PortNo}

-- the name of a carrier, and its number of creation
abbrev pub name_of : Carrier → List ℕ
name_of c = c.name

abbrev pub number_of : Carrier → ℕ
number_of c = c.number

-- the carrier has this name
abbrev pub has_name : List ℕ → Carrier → Bool
has_name name c = named.has_name name_of name c

-- the carrier of a name
abbrev pub carrier_named : List ℕ → List Carrier → Option Carrier
carrier_named name carriers = named.record_named name_of name carriers

-- the carrier of a name is known
abbrev pub is_known : List ℕ → List Carrier → Bool
is_known name carriers = named.is_named name_of name carriers

-- the carrier of a number of creation
abbrev pub carrier_numbered : ℕ → List Carrier → Option Carrier
carrier_numbered n carriers = numbered.record_numbered number_of n carriers

-- a change of the carrier of a number; where there is none, nothing changes
abbrev pub change_numbered : ℕ → (Carrier → Carrier) → List Carrier → List Carrier
change_numbered n change carriers = numbered.change_numbered number_of n change carriers

-- the place of the carrier of a name, counted from 0
abbrev pub place_of : List ℕ → List Carrier → Option ℕ
place_of name carriers = position (has_name name) carriers

-- a change of the carrier of a name
abbrev pub change_named : List ℕ → (Carrier → Carrier) → List Carrier → List Carrier
change_named name change carriers = named.change_named name_of name change carriers

-- the carriers without that of a name
abbrev pub without : List ℕ → List Carrier → List Carrier
without name carriers = named.without_named name_of name carriers

-- a map that nothing is known of: 25 slots of the code 0, undefined (SEMI E87, slot map)
abbrev pub no_map : List ℕ
no_map = 0 ∷ 0 ∷ 0 ∷ 0 ∷ 0 ∷ 0 ∷ 0 ∷ 0 ∷ 0 ∷ 0 ∷ 0 ∷ 0 ∷ 0 ∷ 0 ∷ 0 ∷ 0 ∷ 0 ∷ 0 ∷ 0 ∷ 0 ∷ 0 ∷ 0 ∷ 0 ∷ 0 ∷ 0 ∷ []

-- a carrier that is created with this number: nothing came of it yet, no port is its, and it isn't marked stopped
abbrev pub created : ℕ → List ℕ → Carrier
created number name =
    record { number = number; name = name; states = first_record; is_read = false; map = no_map; host_map = None; port = None; present = false; bound = false; stopped = false }

-- it is behind the others
abbrev pub with_created : ℕ → List ℕ → List Carrier → List Carrier
with_created number name carriers = carriers ++ created number name ∷ []

-- the carrier of a name, made with this number where it isn't known
abbrev pub found_or_created : ℕ → List ℕ → List Carrier → List Carrier
found_or_created number name carriers = if is_known name carriers then carriers else with_created number name carriers

-- the number that the next carrier gets behind that
abbrev pub next_number : ℕ → List ℕ → List Carrier → ℕ
next_number number name carriers = if is_known name carriers then number else number + 1

-- the states of a carrier change by a row
abbrev pub fires_row : ℕ → ℕ → Carrier → Carrier
fires_row table row c = record c { states = carrier_fired table row c.states }

-- the row starts at the carrier, where there is one
abbrev pub starts_row : ℕ → ℕ → Option Carrier → Bool
starts_row table row None = false
starts_row table row (Some c) = carrier_starts table row c.states

-- the slots of a carrier's map
abbrev pub read_map : List ℕ → Carrier → Carrier
read_map slots c = record c { map = slots }

-- ---- ports

-- the port is this one
abbrev pub is_port : ℕ → Option PortNo → Bool
is_port port None = false
is_port port (Some p) = p.0 == port

-- the carrier is present at this port
abbrev pub is_present_at : ℕ → Carrier → Bool
is_present_at port c = c.present && is_port port c.port

-- the carrier came to this port, with its map; it stays bound where it was bound to this port (this tool's profile, table 7)
abbrev pub came_to : ℕ → Bool → List ℕ → Carrier → Carrier
came_to port is_read slots c =
    record c { is_read = is_read; map = slots; port = Some (record { 0 = port }); present = true; bound = c.bound && is_port port c.port }

-- the port is to be the carrier's, which isn't bound yet
abbrev pub directed_to : ℕ → Carrier → Carrier
directed_to port c = record c { port = Some (record { 0 = port }) }

-- the carrier is bound to its port
abbrev pub binds : Carrier → Carrier
binds c = record c { bound = true }

-- the host gave the carrier's map
abbrev pub told_map : List ℕ → Carrier → Carrier
told_map slots c = record c { host_map = Some slots }

-- ---- process jobs

-- the carrier is marked stopped: a process job of it ended after a STOP or an ABORT (this tool's profile, tables 10 and 14)
abbrev pub marks : Carrier → Carrier
marks c = record c { stopped = true }

-- that of a name is, where one is known; all else stays
abbrev pub marked_stopped : List ℕ → List Carrier → List Carrier
marked_stopped name carriers = change_named name marks carriers

-- ---- what is said of them

-- the carrier isn't present
abbrev pub is_absent : Carrier → Bool
is_absent c = not c.present

-- it isn't, where there is one
abbrev pub is_absent_at : Option Carrier → Bool
is_absent_at None = false
is_absent_at (Some c) = is_absent c

-- how many aren't
abbrev pub absent_count : List Carrier → ℕ
absent_count carriers = length (filter is_absent carriers)

-- the most carriers that are known (this tool's profile, limits)
abbrev pub most_carriers : ℕ
most_carriers = 16

-- the most of them that aren't present (this tool's profile, limits)
abbrev pub most_absent : ℕ
most_absent = 12

-- a slot is usable: it is empty, 1, or correctly occupied, 3 (SEMI E87, slot map; this tool's profile, carriers)
abbrev pub is_usable_slot : ℕ → Bool
is_usable_slot code = (code == 1) || (code == 3)

-- a map is usable: each of its slots is
abbrev pub is_usable : List ℕ → Bool
is_usable slots = list_all is_usable_slot slots

-- the map that the host gave is this one
abbrev pub is_host_map : List ℕ → Option (List ℕ) → Bool
is_host_map slots None = false
is_host_map slots (Some given) = bytes_eq given slots

-- the carrier may be taken away: it is complete or stopped, or a verification of it failed (this tool's profile, table 4)
abbrev pub is_finished : CarrierRecord → Bool
is_finished s = is_done s.access || (is_id_failed s.id || is_map_failed s.map)

-- ---- what is told of a carrier

-- the numbers of its states, its map, and its port
abbrev pub view_of : Carrier → CarrierView
view_of c = record {
  id_state = id_number c.states.id;
  map_state = map_number c.states.map;
  access_state = access_number c.states.access;
  map = c.map;
  port = c.port;
  present = c.present;
  bound = c.bound;
}

-- ---- rules that the carriers keep

-- each name is that of one carrier
abbrev pub are_named_apart : List Carrier → Bool
are_named_apart carriers = named.are_named_apart name_of carriers

-- Each name is that of one carrier, and there are at most sixteen.
pub record AreCarriers (carriers : List Carrier) : Type 0 where
  pub apart : are_named_apart carriers ≡ true
  pub few : length carriers ≤ most_carriers
