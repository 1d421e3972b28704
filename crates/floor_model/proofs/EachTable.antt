-- What is so of each table of the floor of the tool, by the name of the table.
use Rattle.std.proofs.Common.{◌≡◌, ℕ, true, List, [], Some}
use Rattle.std.specs.List.{AllByRecursion}
use Rattle.gem_tables.specs.Table.{firing}
use Rattle.gem_tables.specs.Machine.{Machine}
use Rattle.gem_tables.specs.declared.firing.Firing.{Firing}
use Rattle.gem_tables.proofs.Machines as machines
use Rattle.shop_floor.specs.Machines.{transfer_machine, access_machine, reservation_machine, id_machine}
use Rattle.floor_model.specs.Floor.{ToolFloor}
use Rattle.floor_model.specs.Machines.{on_shop, port_machine, slot_machine, carrier_machine, location_machine, transport_machine, processing_machine, process_machine, control_machine, move_machine, floor_machines, floor_starts, floor_fired, creation_rows, floor_least}

-- so much is so of each of tables 4 to 16
pub record EachTable (P : Machine ToolFloor → Type 0) : Type 0 where
  pub transfer : P (on_shop transfer_machine)
  pub access : P (on_shop access_machine)
  pub reservation : P (on_shop reservation_machine)
  pub association : P port_machine
  pub id : P (on_shop id_machine)
  pub map : P slot_machine
  pub accessing : P carrier_machine
  pub location : P location_machine
  pub transport : P transport_machine
  pub processing : P processing_machine
  pub process_job : P process_machine
  pub control_job : P control_machine
  pub move : P move_machine

-- the same, of the list of them
listed : {P : Machine ToolFloor → Type 0} → EachTable P → AllByRecursion P floor_machines
listed each = (
  each.transfer,
  (
    each.access,
    (
      each.reservation,
      (
        each.association,
        (each.id, (each.map, (each.accessing, (each.location, (each.transport, (each.processing, (each.process_job, (each.control_job, (each.move, tt))))))))),
      ),
    ),
  ),
)

-- and what is so of the list is so of each
pub by_name : (P : Machine ToolFloor → Type 0) → AllByRecursion P floor_machines → EachTable P
by_name P (transfer, (access, (reservation, (association, (id, (map, (accessing, (location, (transport, (processing, (process_job, (control_job, (move, rest))))))))))))) = record {
  transfer = transfer;
  access = access;
  reservation = reservation;
  association = association;
  id = id;
  map = map;
  accessing = accessing;
  location = location;
  transport = transport;
  processing = processing;
  process_job = process_job;
  control_job = control_job;
  move = move;
}

-- what is true of the rows of each that start is true of a row that starts
pub starts_cases : (P : Firing → Type 0) (f : ToolFloor) (x : Firing) → EachTable (λ (m : Machine ToolFloor). m.starts x.row.row x.object f ≡ true → P (firing m.table x.object x.row.row)) → floor_starts x f ≡ true → P x
starts_cases P f x each = machines.starts_cases P f x floor_machines (listed each)

-- what is true of the rows of each that are ready by themselves is true of the least
pub least_cases : (P : Firing → Type 0) (f : ToolFloor) (x : Firing) → EachTable (λ (m : Machine ToolFloor). (object row : ℕ) → m.ready object f ≡ Some row → P (firing m.table object row)) → floor_least f ≡ Some x → P x
least_cases P f x each = machines.least_cases P f x floor_machines (listed each)

-- what is true of what a row of each creates, with the floor behind the row, is true of what any row creates, where it is true of nothing
pub either_creates : (P : List Firing → ToolFloor → Type 0) (f : ToolFloor) (x : Firing) → P [] f → EachTable (λ (m : Machine ToolFloor). P (m.creates x.row.row x.object f) (m.fired x.row.row x.object f)) → P (creation_rows x f) (floor_fired x f)
either_creates P f x nothing each = machines.either_creates P f x floor_machines nothing (listed each)
