use Rattle.std.proofs.Common.{◌≡◌, drop}
use Rattle.gem_tables.specs.Names.{table_number}
use Rattle.gem_tables.specs.Machine.{first_ready, ready_in}
use Rattle.shop_floor.specs.Floor.{numbers_from}
use Rattle.shop_floor.specs.Machines.{floor_machines}
use Rattle.shop_floor.proofs.floor.ShopFloor.ready_port.Given as goal

abbrev pub invariant-loop-place : goal.invariant-loop-place
invariant-loop-place l =
    first_ready (table_number l.table) (λ port. ready_in floor_machines (table_number l.table) port l.self) (drop l.place (numbers_from 1 l.self.ports)) ≡ first_ready (table_number l.table) (λ port. ready_in floor_machines (table_number l.table) port l.self) (numbers_from 1 l.self.ports)
