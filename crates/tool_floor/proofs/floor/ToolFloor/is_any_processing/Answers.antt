use Rattle.std.proofs.Common.{◌∙◌, sym}
use Rattle.records.proofs.Scans.{any_here, any_next, any_past}
use Rattle.floor_model.proofs.Scans.{shown}
use Rattle.process_job.specs.declared.job.ProcessJob.{ProcessJob}
use Rattle.floor_model.specs.Jobs.{is_processing}
use Rattle.tool_floor.proofs.floor.ToolFloor.is_any_processing.Goals.{in-Some+else-is_processing, in_default}
use Rattle.tool_floor.proofs.floor.ToolFloor.is_any_processing.Goals as goal

pub returns-then-is_processing : goal.returns-then-is_processing
returns-then-is_processing c =
    sym (any_here (λ (j : ProcessJob). is_processing j.states.state) c.args.self.now.jobs.process.kept c.loop-place.place c.in-Some.job.now (shown c.process_at.ensures c.in-Some.is) (sym c.is_processing.ensures ∙ c.if-is_processing.true))
    ∙ c.loop-place.invariant

pub loop-place-preserved : goal.loop-place-preserved
loop-place-preserved c = elim c.match-process_at.branch [
  | in-Some+else-is_processing w ↦
      sym (any_next (λ (j : ProcessJob). is_processing j.states.state) c.args.self.now.jobs.process.kept c.loop-place.place w.in-Some.job.now (shown c.process_at.ensures w.in-Some.is) (sym w.is_processing.ensures ∙ w.if-is_processing.false))
      ∙ c.loop-place.invariant
  | in_default w ↦
      sym (any_past (λ (j : ProcessJob). is_processing j.states.state) c.args.self.now.jobs.process.kept c.loop-place.place (shown c.process_at.ensures w.in_default.is))
      ∙ c.loop-place.invariant
]
