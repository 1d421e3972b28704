use Rattle.std.proofs.Common.{sym, ◌∙◌}
use Rattle.floor_model.proofs.Showing.{none_planned}
use Rattle.tool_floor.proofs.floor.ToolFloor.planned.Goals as goal

pub returns-then-not-is_any_processing : goal.returns-then-not-is_any_processing
returns-then-not-is_any_processing c =
    sym (none_planned c.args.self.now (sym c.is_any_at_work.ensures ∙ c.if-not-is_any_at_work.true) (sym c.is_any_processing.ensures ∙ c.if-not-is_any_processing.true) c.args.m.0)
