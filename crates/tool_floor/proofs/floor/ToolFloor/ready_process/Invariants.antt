use Rattle.std.proofs.Common.{◌≡◌, drop}
use Rattle.gem_tables.specs.Machine.{first_ready, ready_in}
use Rattle.floor_model.specs.Machines.{process_numbers, floor_machines}
use Rattle.tool_floor.proofs.floor.ToolFloor.ready_process.Given as goal

abbrev pub invariant-loop-place : goal.invariant-loop-place
invariant-loop-place l = first_ready 14 (λ n. ready_in floor_machines 14 n l.self) (drop l.place (process_numbers l.self.jobs.process.kept)) ≡ first_ready 14 (λ n. ready_in floor_machines 14 n l.self) (process_numbers l.self.jobs.process.kept)
