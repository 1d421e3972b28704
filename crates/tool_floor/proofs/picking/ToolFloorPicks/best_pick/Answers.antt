use Rattle.std.proofs.Common.{sym, ◌∙◌}
use Rattle.floor_model.proofs.BestPicks.{by_chamber, by_aligner, by_slot}
use Rattle.tool_floor.proofs.picking.ToolFloorPicks.best_pick.Goals as goal

pub returns-in-Some : goal.returns-in-Some
returns-in-Some c = by_chamber c.args.self.now c.are_places.ensures c.args.modules.now c.in-Some.v (sym c.chamber_pick.ensures ∙ c.in-Some.is)

pub returns-in-Some-aligner_pick : goal.returns-in-Some-aligner_pick
returns-in-Some-aligner_pick c =
    by_aligner c.args.self.now c.are_places.ensures c.args.modules.now c.in-Some-aligner_pick.v (sym c.chamber_pick.ensures ∙ c.in_default.is)
    (sym c.aligner_pick.ensures ∙ c.in-Some-aligner_pick.is)

pub returns : goal.returns
returns c =
    c.slot_pick.ensures.value
    ∙ by_slot c.args.self.now c.are_places.ensures c.args.modules.now c.args.self.now.places.given c.slot_pick.ensures.rise (sym c.chamber_pick.ensures ∙ c.in_default.is)
    (sym c.aligner_pick.ensures ∙ c.in_default-aligner_pick.is)
