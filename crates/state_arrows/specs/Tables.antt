-- The arrows of each table (this tool's profile, tables 1, 2 and 4 to 16).
use Rattle.std.specs.Prelude.{ℕ, Bool, true, false, if◌then◌else◌, List, [], ◌∷◌, Option, Some, None}
use Rattle.gem_tables.specs.Table as table
use Rattle.gem_states.specs.Communication.{communication_table, comm_number}
use Rattle.gem_states.specs.Control.{control_number}
use Rattle.gem_states.specs.Control as control
use Rattle.load_port.specs.Tables.{transfer_table, transfer_number, access_table, access_number, reservation_table, reservation_number, association_table, association_number}
use Rattle.carrier.specs.Tables.{id_table, id_number, map_table, map_number, accessing_table}
use Rattle.carrier.specs.Tables as carrier
use Rattle.substrate.specs.Tables.{occupancy_table, occupancy_number, transport_table, transport_number, processing_table, processing_number}
use Rattle.robot_moves.specs.Tables.{move_table, state_number}
use Rattle.process_job.specs.Tables.{JobEffect, no_more, makes_members, ends, ends_stopped, job_table, job_number}
use Rattle.control_job.specs.Tables.{states_number}
use Rattle.control_job.specs.Tables as control_job
use Rattle.state_arrows.specs.Arrows.{drawn, never_ends, arrow}
use Rattle.state_arrows.specs.declared.arrow.Arrow.{Arrow}
use Rattle.state_arrows.specs.declared.tables.StateTable.{StateTable}
use Rattle.state_arrows.specs.declared.tables.StateTable.TheVariants.{Communication, Control, Transfer, Access, Reservation, Association, CarrierId, SlotMap, Accessing, Location, Transport, Processing, ProcessJob, ControlJob, Module}

-- a process job ends, and is forgotten
abbrev pub ends_job : JobEffect → Bool
ends_job no_more = false
ends_job makes_members = false
ends_job ends = true
ends_job ends_stopped = true

-- it ends with the row of this number
abbrev pub is_ending_row : ℕ → Bool
is_ending_row row = table.is_one_of (7 ∷ 13 ∷ 14 ∷ 15 ∷ 16 ∷ []) row

-- an arrow that leads nowhere where a process job ends with its row
abbrev pub ended : Option Arrow → Option Arrow
ended None = None
ended (Some a) = if is_ending_row a.row then Some (arrow a.row a.from None) else Some a

-- the moment at which a delay is over is drawn nowhere, and so it is 0
abbrev pub communication_arrows : List Arrow
communication_arrows = drawn comm_number never_ends (communication_table 0)

abbrev pub control_arrows : List Arrow
control_arrows = drawn control_number never_ends control.control_table

abbrev pub transfer_arrows : List Arrow
transfer_arrows = drawn transfer_number never_ends transfer_table

abbrev pub access_arrows : List Arrow
access_arrows = drawn access_number never_ends access_table

abbrev pub reservation_arrows : List Arrow
reservation_arrows = drawn reservation_number never_ends reservation_table

abbrev pub association_arrows : List Arrow
association_arrows = drawn association_number never_ends association_table

abbrev pub carrier_id_arrows : List Arrow
carrier_id_arrows = drawn id_number never_ends id_table

abbrev pub slot_map_arrows : List Arrow
slot_map_arrows = drawn map_number never_ends map_table

abbrev pub accessing_arrows : List Arrow
accessing_arrows = drawn carrier.access_number never_ends accessing_table

abbrev pub location_arrows : List Arrow
location_arrows = drawn occupancy_number never_ends occupancy_table

abbrev pub transport_arrows : List Arrow
transport_arrows = drawn transport_number never_ends transport_table

abbrev pub processing_arrows : List Arrow
processing_arrows = drawn processing_number never_ends processing_table

abbrev pub process_job_arrows : List Arrow
process_job_arrows = drawn job_number ends_job job_table

abbrev pub control_job_arrows : List Arrow
control_job_arrows = drawn states_number never_ends control_job.control_table

abbrev pub module_arrows : List Arrow
module_arrows = drawn state_number never_ends move_table

-- the arrows of a table, as it is printed
abbrev pub arrows_of : StateTable → List Arrow
arrows_of Communication = communication_arrows
arrows_of Control = control_arrows
arrows_of Transfer = transfer_arrows
arrows_of Access = access_arrows
arrows_of Reservation = reservation_arrows
arrows_of Association = association_arrows
arrows_of CarrierId = carrier_id_arrows
arrows_of SlotMap = slot_map_arrows
arrows_of Accessing = accessing_arrows
arrows_of Location = location_arrows
arrows_of Transport = transport_arrows
arrows_of Processing = processing_arrows
arrows_of ProcessJob = process_job_arrows
arrows_of ControlJob = control_job_arrows
arrows_of Module = module_arrows
