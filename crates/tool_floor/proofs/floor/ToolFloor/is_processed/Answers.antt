use Rattle.std.proofs.Common.{◌∙◌, sym}
use Rattle.records.proofs.Scans.{any_here, any_next, any_past}
use Rattle.floor_model.specs.Naming.{processes}
use Rattle.tool_floor.proofs.floor.ToolFloor.is_processed.Goals.{in-Some+else-processes, in_default}
use Rattle.tool_floor.proofs.floor.ToolFloor.is_processed.Goals as goal

pub returns-then-processes : goal.returns-then-processes
returns-then-processes c =
    sym (any_here (processes c.args.s.now.sub) c.args.self.now.modules c.loop-place.place c.in-Some.module (sym c.module_at.ensures ∙ c.in-Some.is) (sym c.processes.ensures ∙ c.if-processes.true))
    ∙ c.loop-place.invariant

pub loop-place-preserved : goal.loop-place-preserved
loop-place-preserved c = elim c.match-module_at.branch [
  | in-Some+else-processes w ↦
      sym (any_next (processes c.args.s.now.sub) c.args.self.now.modules c.loop-place.place w.in-Some.module (sym c.module_at.ensures ∙ w.in-Some.is) (sym w.processes.ensures ∙ w.if-processes.false))
      ∙ c.loop-place.invariant
  | in_default w ↦
      sym (any_past (processes c.args.s.now.sub) c.args.self.now.modules c.loop-place.place (sym c.module_at.ensures ∙ w.in_default.is))
      ∙ c.loop-place.invariant
]
