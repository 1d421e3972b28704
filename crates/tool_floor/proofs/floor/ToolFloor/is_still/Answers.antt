use Rattle.std.proofs.Common.{◌∙◌, sym}
use Rattle.floor_model.proofs.Scans.{shown, all_here, all_next, all_past}
use Rattle.floor_model.specs.Jobs.{is_at_rest}
use Rattle.tool_floor.proofs.floor.ToolFloor.is_still.Goals.{in-Some+else-not-is_at_rest, in_default}
use Rattle.tool_floor.proofs.floor.ToolFloor.is_still.Goals as goal

pub returns-then-not-is_at_rest : goal.returns-then-not-is_at_rest
returns-then-not-is_at_rest c =
    sym (all_here (is_at_rest c.args.number c.args.self.now.places c.args.self.now.modules) c.args.self.now.substrates c.loop-place.place c.in-Some.s.now (shown c.substrate_at.ensures c.in-Some.is) (sym c.is_at_rest.ensures ∙ c.if-not-is_at_rest.true))
    ∙ c.loop-place.invariant

pub loop-place-preserved : goal.loop-place-preserved
loop-place-preserved c = elim c.match-substrate_at.branch [
  | in-Some+else-not-is_at_rest w ↦
      sym (all_next (is_at_rest c.args.number c.args.self.now.places c.args.self.now.modules) c.args.self.now.substrates c.loop-place.place w.in-Some.s.now (shown c.substrate_at.ensures w.in-Some.is) (sym w.is_at_rest.ensures ∙ w.if-not-is_at_rest.false))
      ∙ c.loop-place.invariant
  | in_default w ↦
      sym (all_past (is_at_rest c.args.number c.args.self.now.places c.args.self.now.modules) c.args.self.now.substrates c.loop-place.place (shown c.substrate_at.ensures w.in_default.is))
      ∙ c.loop-place.invariant
]
