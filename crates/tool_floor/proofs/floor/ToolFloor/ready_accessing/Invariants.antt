use Rattle.std.proofs.Common.{◌≡◌, drop, map}
use Rattle.gem_tables.specs.Machine.{first_ready, ready_in}
use Rattle.shop_floor.specs.Floor.{number_of}
use Rattle.floor_model.specs.Machines.{floor_machines}
use Rattle.tool_floor.proofs.floor.ToolFloor.ready_accessing.Given as goal

abbrev pub invariant-loop-place : goal.invariant-loop-place
invariant-loop-place l = first_ready 10 (λ carrier. ready_in floor_machines 10 carrier l.self) (drop l.place (map number_of l.self.shop.carriers)) ≡ first_ready 10 (λ carrier. ready_in floor_machines 10 carrier l.self) (map number_of l.self.shop.carriers)
