use Rattle.std.proofs.Common.{◌∙◌, sym}
use Rattle.records.proofs.Scans.{any_here, any_next, any_past}
use Rattle.floor_model.proofs.Scans.{shown}
use Rattle.floor_model.specs.Jobs.{names_carrier}
use Rattle.tool_floor.proofs.floor.ToolFloor.is_any_of_carrier.Goals.{in-Some+else-names_carrier, in_default}
use Rattle.tool_floor.proofs.floor.ToolFloor.is_any_of_carrier.Goals as goal

pub returns-then-names_carrier : goal.returns-then-names_carrier
returns-then-names_carrier c =
    sym (any_here (names_carrier c.args.name) c.args.self.now.jobs.process.kept c.loop-place.place c.in-Some.job.now (shown c.process_at.ensures c.in-Some.is) (sym c.names_carrier.ensures ∙ c.if-names_carrier.true))
    ∙ c.loop-place.invariant

pub loop-place-preserved : goal.loop-place-preserved
loop-place-preserved c = elim c.match-process_at.branch [
  | in-Some+else-names_carrier w ↦
      sym (any_next (names_carrier c.args.name) c.args.self.now.jobs.process.kept c.loop-place.place w.in-Some.job.now (shown c.process_at.ensures w.in-Some.is) (sym w.names_carrier.ensures ∙ w.if-names_carrier.false))
      ∙ c.loop-place.invariant
  | in_default w ↦
      sym (any_past (names_carrier c.args.name) c.args.self.now.jobs.process.kept c.loop-place.place (shown c.process_at.ensures w.in_default.is))
      ∙ c.loop-place.invariant
]
