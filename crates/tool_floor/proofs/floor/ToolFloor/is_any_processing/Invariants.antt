use Rattle.std.proofs.Common.{◌≡◌, drop}
use Rattle.std.specs.List.{list_any}
use Rattle.process_job.specs.declared.job.ProcessJob.{ProcessJob}
use Rattle.floor_model.specs.Jobs.{is_processing}
use Rattle.tool_floor.proofs.floor.ToolFloor.is_any_processing.Given as goal

abbrev pub invariant-loop-place : goal.invariant-loop-place
invariant-loop-place l = list_any (λ (j : ProcessJob). is_processing j.states.state) (drop l.place l.self.jobs.process.kept) ≡ list_any (λ (j : ProcessJob). is_processing j.states.state) l.self.jobs.process.kept
