use Rattle.std.proofs.Common.{◌≡◌, drop, map}
use Rattle.gem_tables.specs.Names.{table_number}
use Rattle.gem_tables.specs.Machine.{first_ready, ready_in}
use Rattle.shop_floor.specs.Floor.{number_of}
use Rattle.shop_floor.specs.Machines.{floor_machines}
use Rattle.shop_floor.proofs.floor.ShopFloor.ready_carrier.Given as goal

abbrev pub invariant-loop-place : goal.invariant-loop-place
invariant-loop-place l =
    first_ready (table_number l.table) (λ carrier. ready_in floor_machines (table_number l.table) carrier l.self) (drop l.place (map number_of l.self.carriers)) ≡ first_ready (table_number l.table) (λ carrier. ready_in floor_machines (table_number l.table) carrier l.self) (map number_of l.self.carriers)
