use Rattle.std.proofs.Common.{◌≡◌, drop}
use Rattle.gem_tables.specs.Machine.{first_ready, ready_in}
use Rattle.control_job.specs.Jobs.{numbers_of as control_numbers}
use Rattle.floor_model.specs.Machines.{floor_machines}
use Rattle.tool_floor.proofs.floor.ToolFloor.ready_control.Given as goal

abbrev pub invariant-loop-place : goal.invariant-loop-place
invariant-loop-place l = first_ready 15 (λ n. ready_in floor_machines 15 n l.self) (drop l.place (control_numbers l.self.jobs.control.jobs)) ≡ first_ready 15 (λ n. ready_in floor_machines 15 n l.self) (control_numbers l.self.jobs.control.jobs)
