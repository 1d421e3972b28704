use Rattle.std.proofs.Common.{◌∙◌, sym}
use Rattle.tool_floor.proofs.Due.{due_here, due_next}
use Rattle.tool_floor.proofs.floor.ToolFloor.is_any_due.Goals as goal

pub returns-then-is_due_at : goal.returns-then-is_due_at
returns-then-is_due_at c =
    sym (due_here c.args.self.now.modules c.args.self.now.substrates c.loop-place.place (sym c.is_due_at.ensures ∙ c.if-is_due_at.true)) ∙ c.loop-place.invariant

pub loop-place-preserved : goal.loop-place-preserved
loop-place-preserved c =
    sym (due_next c.args.self.now.modules c.args.self.now.substrates c.loop-place.place (sym c.is_due_at.ensures ∙ c.if-is_due_at.false)) ∙ c.loop-place.invariant
