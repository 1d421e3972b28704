-- Tables 4 to 16 at work on the floor of the tool (after SEMI E40, SEMI E87, SEMI E90 and SEMI E94; this tool's profile, tables 4 to
-- 16, and settling).
use Rattle.std.specs.Prelude.{ℕ, ◌==◌, Bool, false, ◌&&◌, if◌then◌else◌, List, [], ◌∷◌, map, Option, Some, None}
use Rattle.gem_tables.specs.Table.{is_one_of, may_fire, first_itself, row_of}
use Rattle.gem_tables.specs.Machine.{Machine, starts_in, fired_in, creates_in, object_in, least_in}
use Rattle.gem_tables.specs.declared.firing.Firing.{Firing}
use Rattle.robot_moves.specs.Modules.{module_at}
use Rattle.carrier.specs.declared.carrier.Carrier.{Carrier}
use Rattle.carrier.specs.Tables.{access_number, accessing_table}
use Rattle.carrier.specs.Carriers.{carrier_numbered}
use Rattle.shop_floor.specs.Floor.{Floor}
use Rattle.shop_floor.specs.Owning.{owner_number}
use Rattle.shop_floor.specs.Machines.{transfer_machine, access_machine, reservation_machine, association_machine, id_machine, map_machine, accessing_machine}
use Rattle.substrate.specs.Tables.{SubstrateRow, occupancy_number, occupancy_table, transport_number, transport_table, processing_number, processing_table}
use Rattle.substrate.specs.Record.{location_fired, substrate_fired}
use Rattle.substrate.specs.declared.record.SubstrateRecord.{SubstrateRecord}
use Rattle.substrate.specs.declared.record.LocationRecord.{LocationRecord}
use Rattle.substrate.specs.Places.{found_location}
use Rattle.floor_model.specs.declared.tracked.Substrate.{Substrate}
use Rattle.floor_model.specs.Floor.{ToolFloor, with_shop, with_jobs, with_module, module_numbers, location_at, change_location, location_numbers, name_of_place, substrate_numbered, change_numbered, substrate_name, number_of}
use Rattle.robot_moves.specs.Tables.{move_table}
use Rattle.floor_model.specs.Views.{planned}
use Rattle.floor_model.specs.Modules.{move_starts, move_ready, module_behind, one_more, found_move}
use Rattle.floor_model.specs.Wants.{accessing_wants, location_wants, substrate_wants}
use Rattle.floor_model.specs.Jobs.{found_sight, is_first_here, process_behind}
use Rattle.process_job.specs.Jobs.{job_numbered as process_numbered}
use Rattle.process_job.specs.declared.job.ProcessJob.{ProcessJob}
use Rattle.control_job.specs.Jobs.{job_numbered as control_numbered, numbers_of as control_numbers}
use Rattle.tool_jobs.specs.Jobs.{process_name, control_name}
use Rattle.tool_jobs.specs.Rows.{process_starts, process_ready, control_starts, control_ready, control_fired}
use Rattle.floor_model.specs.Substrates.{reaches_verified, registers_found, new_rows, without_carrier, found_does}

-- ---- the load ports and the carriers

-- a table of the load ports and the carriers, on the floor of the tool
abbrev pub on_shop : Machine Floor → Machine ToolFloor
on_shop m = record {
  table = m.table;
  objects = λ f. m.objects f.shop;
  starts = λ row object f. m.starts row object f.shop;
  ready = λ object f. m.ready object f.shop;
  fired = λ row object f. with_shop (m.fired row object f.shop) f;
  creates = λ row object f. m.creates row object f.shop;
  name = λ object f. m.name object f.shop;
}

-- with row 6 of association the substrates of the port's carrier go too
abbrev pub taken_along : ℕ → ℕ → ToolFloor → ToolFloor
taken_along row port f = if row == 6 then without_carrier (owner_number port f.shop) f else f

-- table 7, association
abbrev pub port_machine : Machine ToolFloor
port_machine =
    record (on_shop association_machine) { fired = λ row port f. with_shop (association_machine.fired row port f.shop) (taken_along row port f) }

-- the rows that reach VERIFIED register the substrates of the carrier of a number
abbrev pub registered_by : ℕ → ℕ → ToolFloor → ToolFloor
registered_by row carrier f = if reaches_verified row then registers_found (carrier_numbered carrier f.shop.carriers) f else f

-- table 9, the slot map
abbrev pub slot_machine : Machine ToolFloor
slot_machine =
    record (on_shop map_machine) {
      fired = λ row carrier f. with_shop (map_machine.fired row carrier f.shop) (registered_by row carrier f);
      creates = λ row carrier f. new_rows f (registered_by row carrier f);
    }

-- a row of table 10 starts at a carrier
abbrev pub accessing_starts : ℕ → Option Carrier → ToolFloor → Bool
accessing_starts row None f = false
accessing_starts row (Some c) f = may_fire access_number (λ want. accessing_wants want c f) accessing_table row c.states.access

-- the least row of table 10 that is ready by itself at a carrier
abbrev pub accessing_ready : Option Carrier → ToolFloor → Option ℕ
accessing_ready None f = None
accessing_ready (Some c) f = first_itself access_number (λ want. accessing_wants want c f) accessing_table c.states.access

-- table 10, accessing
abbrev pub carrier_machine : Machine ToolFloor
carrier_machine =
    record (on_shop accessing_machine) {
      starts = λ row carrier f. accessing_starts row (carrier_numbered carrier f.shop.carriers) f;
      ready = λ carrier f. accessing_ready (carrier_numbered carrier f.shop.carriers) f;
    }

-- ---- the locations

-- a row of table 11 starts at the location of a number
abbrev pub location_starts : ℕ → ℕ → Option LocationRecord → ToolFloor → Bool
location_starts row number None f = false
location_starts row number (Some l) f = may_fire occupancy_number (λ want. location_wants want number f.places) occupancy_table row l.occupancy

-- the row that is ready by itself at the location of a number
abbrev pub location_ready : ℕ → Option LocationRecord → ToolFloor → Option ℕ
location_ready number None f = None
location_ready number (Some l) f = first_itself occupancy_number (λ want. location_wants want number f.places) occupancy_table l.occupancy

-- table 11, location
abbrev pub location_machine : Machine ToolFloor
location_machine = record {
  table = 11;
  objects = λ f. location_numbers 1 f.locations;
  starts = λ row number f. location_starts row number (location_at number f.locations) f;
  ready = λ number f. location_ready number (location_at number f.locations) f;
  fired = λ row number f. record f { locations = change_location number (location_fired row) f.locations };
  creates = λ row number f. [];
  name = λ number f. name_of_place (found_location number f.places);
}

-- ---- the substrates: a table of theirs, of which each has one of these states

module _ {S : Type 0} (number : S → ℕ) (rows : List (SubstrateRow S)) (state : SubstrateRecord → S) where
  -- the row of a number starts at a substrate
  abbrev pub substrate_starts : ℕ → Option Substrate → ToolFloor → Bool
  substrate_starts row None f = false
  substrate_starts row (Some s) f = may_fire number (λ want. substrate_wants want s f) rows row (state s.states)

  -- the least row that is ready by itself at a substrate
  abbrev pub substrate_ready : Option Substrate → ToolFloor → Option ℕ
  substrate_ready None f = None
  substrate_ready (Some s) f = first_itself number (λ want. substrate_wants want s f) rows (state s.states)

-- how many steps of its route are done behind a row: one more behind row 3 of processing, which is fired where the last is done
abbrev pub steps_behind : ℕ → ℕ → ℕ → ℕ
steps_behind table row steps = if (table == 13) && (row == 3) then one_more steps else steps

-- a substrate behind a row
abbrev pub substrate_moves : ℕ → ℕ → Substrate → Substrate
substrate_moves table row s = record s { states = substrate_fired table row s.states; steps = steps_behind table row s.steps }

-- the substrate of a number behind a row
abbrev pub with_moved : ℕ → ℕ → ℕ → ToolFloor → ToolFloor
with_moved table row n f = record f { substrates = change_numbered n (substrate_moves table row) f.substrates }

-- table 12, transport
abbrev pub transport_machine : Machine ToolFloor
transport_machine = record {
  table = 12;
  objects = λ f. map number_of f.substrates;
  starts = λ row n f. substrate_starts transport_number transport_table (λ s. s.transport) row (substrate_numbered n f.substrates) f;
  ready = λ n f. substrate_ready transport_number transport_table (λ s. s.transport) (substrate_numbered n f.substrates) f;
  fired = λ row n f. with_moved 12 row n f;
  creates = λ row n f. [];
  name = λ n f. substrate_name (substrate_numbered n f.substrates);
}

-- table 13, processing
abbrev pub processing_machine : Machine ToolFloor
processing_machine = record {
  table = 13;
  objects = λ f. map number_of f.substrates;
  starts = λ row n f. substrate_starts processing_number processing_table (λ s. s.processing) row (substrate_numbered n f.substrates) f;
  ready = λ n f. substrate_ready processing_number processing_table (λ s. s.processing) (substrate_numbered n f.substrates) f;
  fired = λ row n f. with_moved 13 row n (found_does (row_of processing_table row) (substrate_numbered n f.substrates) f);
  creates = λ row n f. [];
  name = λ n f. substrate_name (substrate_numbered n f.substrates);
}

-- ---- the jobs

-- the numbers of the process jobs, and of the control jobs, by creation
abbrev pub process_numbers : List ProcessJob → List ℕ
process_numbers js = map (λ j. j.number) js

-- table 14, process jobs
abbrev pub process_machine : Machine ToolFloor
process_machine = record {
  table = 14;
  objects = λ f. process_numbers f.jobs.process.kept;
  starts = λ row n f. process_starts row (process_numbered n f.jobs.process.kept) (found_sight (process_numbered n f.jobs.process.kept) f) f.jobs;
  ready = λ n f. process_ready (process_numbered n f.jobs.process.kept) (found_sight (process_numbered n f.jobs.process.kept) f) f.jobs;
  fired = λ row n f. process_behind row n f;
  creates = λ row n f. [];
  name = λ n f. process_name (process_numbered n f.jobs.process.kept);
}

-- table 15, control jobs
abbrev pub control_machine : Machine ToolFloor
control_machine = record {
  table = 15;
  objects = λ f. control_numbers f.jobs.control.jobs;
  starts = λ row n f. control_starts row (control_numbered n f.jobs.control.jobs) (is_first_here n f) f.jobs;
  ready = λ n f. control_ready (control_numbered n f.jobs.control.jobs) (is_first_here n f) f.jobs;
  fired = λ row n f. with_jobs (control_fired row n f.jobs) f;
  creates = λ row n f. [];
  name = λ n f. control_name (control_numbered n f.jobs.control.jobs);
}

-- ---- the modules

-- the floor behind the row of a number at the module of a number
abbrev pub moved_by : ℕ → ℕ → ToolFloor → ToolFloor
moved_by row number f = with_module number (module_behind row) (found_move (row_of move_table row) number (planned number f) f)

-- the table of moves: its objects are the modules, which have no name
abbrev pub move_machine : Machine ToolFloor
move_machine = record {
  table = 16;
  objects = λ f. module_numbers 1 f.modules;
  starts = λ row number f. move_starts row (planned number f) (module_at number f.modules);
  ready = λ number f. move_ready (planned number f) (module_at number f.modules);
  fired = moved_by;
  creates = λ row number f. [];
  name = λ number f. [];
}

abbrev pub floor_machines : List (Machine ToolFloor)
floor_machines =
    on_shop transfer_machine ∷ on_shop access_machine ∷ on_shop reservation_machine ∷ port_machine ∷ on_shop id_machine ∷ slot_machine
    ∷ carrier_machine ∷ location_machine ∷ transport_machine ∷ processing_machine ∷ process_machine ∷ control_machine ∷ move_machine ∷ []

-- ---- all of them

-- the row of a firing starts
abbrev pub floor_starts : Firing → ToolFloor → Bool
floor_starts x f = starts_in floor_machines x f

-- a row fires: its effect, and the state of its object
abbrev pub floor_fired : Firing → ToolFloor → ToolFloor
floor_fired x f = fired_in floor_machines x f

-- the rows of the objects that a firing creates, which fire straight behind it
abbrev pub creation_rows : Firing → ToolFloor → List Firing
creation_rows x f = creates_in floor_machines x f

-- a row that fires for an object that was just created: of a carrier, or of a substrate in its two tables
abbrev pub is_creation : Firing → Bool
is_creation x = is_one_of (8 ∷ 12 ∷ 13 ∷ []) x.row.table && (x.row.row == 1)

-- the least row that is ready by itself, by table, object and row: ports, locations and modules by number, carriers and jobs by
-- creation, substrates by registration
abbrev pub floor_least : ToolFloor → Option Firing
floor_least f = least_in floor_machines f

-- the name of the object of a firing: a port's, a carrier's, a location's, a substrate's or a job's; a module has none (this tool's
-- profile, object names)
abbrev pub object_name : Firing → ToolFloor → List ℕ
object_name x f = object_in floor_machines x f
