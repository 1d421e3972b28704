use Rattle.std.proofs.Common.{◌∙◌, sym}
use Rattle.records.proofs.Scans.{any_here, any_next, any_past}
use Rattle.floor_model.proofs.Scans.{shown}
use Rattle.floor_model.specs.Jobs.{is_ending}
use Rattle.tool_floor.proofs.floor.ToolFloor.is_any_ending.Goals.{in-Some+else-is_ending, in_default}
use Rattle.tool_floor.proofs.floor.ToolFloor.is_any_ending.Goals as goal

pub returns-then-is_ending : goal.returns-then-is_ending
returns-then-is_ending c =
    sym (any_here (is_ending) c.args.self.now.jobs.process.kept c.loop-place.place c.in-Some.job.now (shown c.process_at.ensures c.in-Some.is) (sym c.is_ending.ensures ∙ c.if-is_ending.true))
    ∙ c.loop-place.invariant

pub loop-place-preserved : goal.loop-place-preserved
loop-place-preserved c = elim c.match-process_at.branch [
  | in-Some+else-is_ending w ↦
      sym (any_next (is_ending) c.args.self.now.jobs.process.kept c.loop-place.place w.in-Some.job.now (shown c.process_at.ensures w.in-Some.is) (sym w.is_ending.ensures ∙ w.if-is_ending.false))
      ∙ c.loop-place.invariant
  | in_default w ↦
      sym (any_past (is_ending) c.args.self.now.jobs.process.kept c.loop-place.place (shown c.process_at.ensures w.in_default.is))
      ∙ c.loop-place.invariant
]
