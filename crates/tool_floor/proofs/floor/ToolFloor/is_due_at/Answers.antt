use Rattle.std.proofs.Common.{◌∙◌, sym}
use Rattle.tool_floor.proofs.Due.{idle_none}
use Rattle.tool_floor.proofs.floor.ToolFloor.is_due_at.Goals as goal

pub returns-then-is_idle_at : goal.returns-then-is_idle_at
returns-then-is_idle_at c = sym (idle_none _ c.args.self.now.substrates (sym c.is_idle_at.ensures ∙ c.if-is_idle_at.true))
