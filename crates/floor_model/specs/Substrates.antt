-- Where the substrates are, and how they are registered, removed and lost (after SEMI E87 and SEMI E90; this tool's profile, tables 9 to
-- 13). The tables are in carrier and substrate.
use Rattle.std.specs.Prelude.{ℕ, zero, suc, ◌+◌, ◌==◌, Bool, true, false, not, ◌&&◌, ◌||◌, if◌then◌else◌, List, [], ◌∷◌, ◌++◌, drop, length, filter, Option, Some, None, is_some, option_map}
use Rattle.std.specs.List.{list_any, list_all}
use Rattle.std.specs.Str.{bytes_eq}
use Rattle.gem_tables.specs.Table.{firing}
use Rattle.gem_tables.specs.declared.firing.Firing.{Firing}
use Rattle.gem_ids.specs.declared.numbers.LocId.{LocId}
use Rattle.gem_ids.specs.declared.numbers.LocId.TheVariants.{Slot}
use Rattle.gem_ids.specs.declared.numbers.PortNo.{PortNo}
use Rattle.gem_ids.specs.Names.{name_in_slot}
use Rattle.tool_tasks.specs.declared.task.Task.{Task}
use Rattle.tool_tasks.specs.declared.task.Task.TheVariants as task
use Rattle.robot_moves.specs.declared.module.Module.{Module}
use Rattle.robot_moves.specs.declared.module.Module.TheVariants.{Idle, Busy, Down}
use Rattle.carrier.specs.Tables as carrier_want
use Rattle.carrier.specs.Tables.{CarrierWant}
use Rattle.carrier.specs.Wants.{carrier_wants}
use Rattle.carrier.specs.declared.carrier.Carrier.{Carrier}
use Rattle.substrate.specs.Tables as want
use Rattle.substrate.specs.Tables.{SubstrateWant, SubstrateEffect, SubstrateRow}
use Rattle.substrate.specs.Locations.{is_location, is_work_place}
use Rattle.substrate.specs.Places.{PlaceMap, substrate_named, is_taken_at, is_there, registered, register_fault, removed}
use Rattle.substrate.specs.Record.{first_record}
use Rattle.substrate.specs.declared.registered.Registered.{Registered}
use Rattle.floor_model.specs.declared.tracked.Substrate.{Substrate}
use Rattle.floor_model.specs.Floor.{ToolFloor}

-- ---- where a substrate is

-- there is one, and it is at the aligner, on the arm or in a chamber
abbrev pub is_at_work : Option Registered → Bool
is_at_work None = false
is_at_work (Some r) = is_work_place r.at

-- the substrate is outside: at the aligner, on the arm or in a chamber (this tool's profile, table 13)
abbrev pub is_outside : Substrate → PlaceMap → Bool
is_outside s p = is_at_work (substrate_named s.sub p.held)

-- it is in its slot
abbrev pub is_in_slot : Substrate → PlaceMap → Bool
is_in_slot s p = is_there s.slot (substrate_named s.sub p.held)

-- it has no place any more
abbrev pub is_removed : Substrate → PlaceMap → Bool
is_removed s p = not (is_some (substrate_named s.sub p.held))

-- it is of the carrier of this number of creation
abbrev pub is_of : ℕ → Substrate → Bool
is_of carrier s = s.carrier == carrier

-- ---- registration

-- a substrate of this name can be registered at this place: it is one of the tool, and no fault stands against it
abbrev pub can_register : List ℕ → LocId → PlaceMap → Bool
can_register sub loc p = is_location p.ports p.chambers loc && not (is_some (register_fault sub loc p.held))

-- a substrate that is registered, in its slot, of the carrier of this number, with no step done, and in no job
abbrev pub first_substrate : ℕ → List ℕ → ℕ → LocId → Substrate
first_substrate number sub carrier loc =
    record { number = number; sub = sub; carrier = carrier; slot = loc; states = first_record; aligned = false; steps = 0; job = 0 }

-- a substrate is registered at a place, behind the others, where it can be
abbrev pub registers_at : List ℕ → ℕ → LocId → ToolFloor → ToolFloor
registers_at sub carrier loc f =
    if can_register sub loc f.places then
    record f {
      places = registered sub loc f.places;
      substrates = f.substrates ++ first_substrate (f.places.given + 1) sub carrier loc ∷ [];
    }
    else f

-- a slot of a carrier at a port is correctly occupied, code 3: its substrate is registered
abbrev pub registers_slot : Carrier → PortNo → ℕ → ℕ → ToolFloor → ToolFloor
registers_slot c port slot code f =
    if code == 3 then registers_at (name_in_slot c.name slot) c.number (Slot port (record { 0 = slot })) f else f

-- so many slots, from the slot of this number on, with their codes in order
abbrev pub registers_slots : Carrier → PortNo → ℕ → ℕ → List ℕ → ToolFloor → ToolFloor
registers_slots c port slot zero slots f = f
registers_slots c port slot (suc count) [] f = f
registers_slots c port slot (suc count) (code ∷ slots) f =
    registers_slots c port (slot + 1) count slots (registers_slot c port slot code f)

-- the substrates of a carrier at its port are registered, in the order of its 25 slots (SEMI E87, slot map; this tool's profile,
-- carriers)
abbrev pub registers_at_port : Option PortNo → Carrier → ToolFloor → ToolFloor
registers_at_port None c f = f
registers_at_port (Some port) c f = registers_slots c port 1 25 c.map f

abbrev pub registers_found : Option Carrier → ToolFloor → ToolFloor
registers_found None f = f
registers_found (Some c) f = registers_at_port c.port c f

-- rows 1 and 3 of the table of the slot map reach VERIFIED
abbrev pub reaches_verified : ℕ → Bool
reaches_verified row = (row == 1) || (row == 3)

-- the rows that follow the registration of these substrates: of each its row 1 of transport, then that of processing
abbrev pub registration_rows : List Substrate → List Firing
registration_rows [] = []
registration_rows (s ∷ ss) = firing 12 s.number 1 ∷ firing 13 s.number 1 ∷ registration_rows ss

-- the rows of the substrates that are new
abbrev pub new_rows : ToolFloor → ToolFloor → List Firing
new_rows before behind = registration_rows (drop (length before.substrates) behind.substrates)

-- ---- removal

-- a substrate has no place any more, where there is one and it is of the carrier of a number
abbrev pub emptied : ℕ → Option Substrate → PlaceMap → PlaceMap
emptied carrier None p = p
emptied carrier (Some s) p = if is_of carrier s then removed s.sub p else p

-- of these substrates, those of the carrier of a number have no place any more
abbrev pub removed_of : ℕ → List Substrate → PlaceMap → PlaceMap
removed_of carrier [] p = p
removed_of carrier (s ∷ ss) p = removed_of carrier ss (emptied carrier (Some s) p)

-- the substrates of the carrier of a number are removed and forgotten
abbrev pub without_carrier : Option ℕ → ToolFloor → ToolFloor
without_carrier None f = f
without_carrier (Some carrier) f =
    record f { places = removed_of carrier f.substrates f.places; substrates = filter (λ s. not (is_of carrier s)) f.substrates }

-- ---- one that is lost

-- a substrate has no place any more, where one is given
abbrev pub removed_where : Option Substrate → PlaceMap → PlaceMap
removed_where None p = p
removed_where (Some s) p = removed s.sub p

-- what the word of a row of processing does at the substrate of a number
abbrev pub substrate_does : SubstrateEffect → Option Substrate → ToolFloor → ToolFloor
substrate_does want.no_more o f = f
substrate_does want.loses_place o f = record f { places = removed_where o f.places }

abbrev pub found_does : {S : Type 0} → Option (SubstrateRow S) → Option Substrate → ToolFloor → ToolFloor
found_does None o f = f
found_does (Some r) o f = substrate_does r.does o f
