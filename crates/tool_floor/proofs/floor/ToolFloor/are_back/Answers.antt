use Rattle.std.proofs.Common.{◌∙◌, sym}
use Rattle.floor_model.proofs.Scans.{shown, all_here, all_next, all_past}
use Rattle.floor_model.specs.Wants.{is_back}
use Rattle.tool_floor.proofs.floor.ToolFloor.are_back.Goals.{in-Some+else-not-is_back, in_default}
use Rattle.tool_floor.proofs.floor.ToolFloor.are_back.Goals as goal

pub returns-then-not-is_back : goal.returns-then-not-is_back
returns-then-not-is_back c =
    sym (all_here (is_back c.args.carrier c.args.self.now.places) c.args.self.now.substrates c.loop-place.place c.in-Some.s.now (shown c.substrate_at.ensures c.in-Some.is) (sym c.is_back.ensures ∙ c.if-not-is_back.true))
    ∙ c.loop-place.invariant

pub loop-place-preserved : goal.loop-place-preserved
loop-place-preserved c = elim c.match-substrate_at.branch [
  | in-Some+else-not-is_back w ↦
      sym (all_next (is_back c.args.carrier c.args.self.now.places) c.args.self.now.substrates c.loop-place.place w.in-Some.s.now (shown c.substrate_at.ensures w.in-Some.is) (sym w.is_back.ensures ∙ w.if-not-is_back.false))
      ∙ c.loop-place.invariant
  | in_default w ↦
      sym (all_past (is_back c.args.carrier c.args.self.now.places) c.args.self.now.substrates c.loop-place.place (shown c.substrate_at.ensures w.in_default.is))
      ∙ c.loop-place.invariant
]
