-- What is so of each table of the load ports and the carriers, by the name of the table.
use Rattle.std.proofs.Common.{◌≡◌, ℕ, true, List, [], Some}
use Rattle.std.specs.List.{AllByRecursion}
use Rattle.gem_tables.specs.Table.{firing}
use Rattle.gem_tables.specs.Machine.{Machine}
use Rattle.gem_tables.specs.declared.firing.Firing.{Firing}
use Rattle.gem_tables.proofs.Machines as machines
use Rattle.shop_floor.specs.Floor.{Floor}
use Rattle.shop_floor.specs.Machines.{transfer_machine, access_machine, reservation_machine, association_machine, id_machine, map_machine, accessing_machine, floor_machines, floor_starts, floor_fired, creation_rows, floor_least}

-- so much is so of each of tables 4 to 10
pub record EachTable (P : Machine Floor → Type 0) : Type 0 where
  pub transfer : P transfer_machine
  pub access : P access_machine
  pub reservation : P reservation_machine
  pub association : P association_machine
  pub id : P id_machine
  pub map : P map_machine
  pub accessing : P accessing_machine

-- the same, of the list of them
listed : {P : Machine Floor → Type 0} → EachTable P → AllByRecursion P floor_machines
listed each = (each.transfer, (each.access, (each.reservation, (each.association, (each.id, (each.map, (each.accessing, tt)))))))

-- and what is so of the list is so of each
pub by_name : (P : Machine Floor → Type 0) → AllByRecursion P floor_machines → EachTable P
by_name P (transfer, (access, (reservation, (association, (id, (map, (accessing, rest))))))) = record {
  transfer = transfer;
  access = access;
  reservation = reservation;
  association = association;
  id = id;
  map = map;
  accessing = accessing;
}

-- what is true of the rows of each that start is true of a row that starts
pub starts_cases : (P : Firing → Type 0) (f : Floor) (x : Firing) → EachTable (λ (m : Machine Floor). m.starts x.row.row x.object f ≡ true → P (firing m.table x.object x.row.row)) → floor_starts x f ≡ true → P x
starts_cases P f x each = machines.starts_cases P f x floor_machines (listed each)

-- what is true of the rows of each that are ready by themselves is true of the least
pub least_cases : (P : Firing → Type 0) (f : Floor) (x : Firing) → EachTable (λ (m : Machine Floor). (object row : ℕ) → m.ready object f ≡ Some row → P (firing m.table object row)) → floor_least f ≡ Some x → P x
least_cases P f x each = machines.least_cases P f x floor_machines (listed each)

-- what is true of what a row of each creates, with the floor behind the row, is true of what any row creates, where it is true of nothing
pub either_creates : (P : List Firing → Floor → Type 0) (f : Floor) (x : Firing) → P [] f → EachTable (λ (m : Machine Floor). P (m.creates x.row.row x.object f) (m.fired x.row.row x.object f)) → P (creation_rows x f) (floor_fired x f)
either_creates P f x nothing each = machines.either_creates P f x floor_machines nothing (listed each)
