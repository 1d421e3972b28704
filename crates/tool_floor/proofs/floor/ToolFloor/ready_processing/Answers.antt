use Rattle.std.proofs.Common.{sym, ◌∙◌}
use Rattle.floor_model.proofs.Resting.{no_processing}
use Rattle.tool_floor.proofs.floor.ToolFloor.ready_processing.Goals as goal

pub returns-then-not-is_any_ending : goal.returns-then-not-is_any_ending
returns-then-not-is_any_ending c =
    sym (no_processing c.args.self.now (sym c.is_any_due.ensures ∙ c.if-not-is_any_due.true) (sym c.is_any_ending.ensures ∙ c.if-not-is_any_ending.true))
