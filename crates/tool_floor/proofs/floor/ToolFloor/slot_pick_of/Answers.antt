use Rattle.std.proofs.Common.{sym, ap, ◌∙◌}
use Rattle.floor_model.specs.Floor.{ToolFloor}
use Rattle.floor_model.specs.Picks.{may_be_picked}
use Rattle.floor_model.proofs.SlotPicks.{not_picked, picked_where}
use Rattle.tool_floor.proofs.floor.ToolFloor.slot_pick_of.Goals as goal

pub returns-then-may_be_picked : goal.returns-then-may_be_picked
returns-then-may_be_picked c =
    c.where_useful.ensures
    ∙ picked_where c.args.self.now c.args.modules.now c.args.s.now c.args.aligner c.told_in_slot.result c.told_in_slot.ensures
    (ap (λ (f : ToolFloor). may_be_picked c.args.aligner c.args.s.now f.jobs) (sym c.self.view_is) ∙ sym c.may_be_picked.ensures ∙ c.if-may_be_picked.true)

pub returns-else-may_be_picked : goal.returns-else-may_be_picked
returns-else-may_be_picked c =
    sym (not_picked c.args.self.now c.args.modules.now c.args.s.now c.args.aligner c.requires
    (ap (λ (f : ToolFloor). may_be_picked c.args.aligner c.args.s.now f.jobs) (sym c.self.view_is) ∙ sym c.may_be_picked.ensures ∙ c.if-may_be_picked.false))
