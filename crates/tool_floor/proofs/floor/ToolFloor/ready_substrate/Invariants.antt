use Rattle.std.proofs.Common.{◌≡◌, drop, map}
use Rattle.gem_tables.specs.Names.{table_number}
use Rattle.gem_tables.specs.Machine.{first_ready, ready_in}
use Rattle.floor_model.specs.Floor.{number_of}
use Rattle.floor_model.specs.Machines.{floor_machines}
use Rattle.tool_floor.proofs.floor.ToolFloor.ready_substrate.Given as goal

abbrev pub invariant-loop-place : goal.invariant-loop-place
invariant-loop-place l = first_ready (table_number l.table) (λ n. ready_in floor_machines (table_number l.table) n l.self) (drop l.place (map number_of l.self.substrates)) ≡ first_ready (table_number l.table) (λ n. ready_in floor_machines (table_number l.table) n l.self) (map number_of l.self.substrates)
