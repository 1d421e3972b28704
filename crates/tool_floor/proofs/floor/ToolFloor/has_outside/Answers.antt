use Rattle.std.proofs.Common.{◌&&◌, ◌∙◌, sym, ap}
use Rattle.records.proofs.Scans.{any_here, any_next, any_past}
use Rattle.floor_model.specs.declared.tracked.Substrate.{Substrate}
use Rattle.floor_model.specs.Substrates.{is_of, is_outside}
use Rattle.floor_model.specs.Wants.{has_outside}
use Rattle.floor_model.specs.Floor.{ToolFloor}
use Rattle.floor_model.proofs.Working.{has_none_outside}
use Rattle.floor_model.proofs.Scans.{shown}
use Rattle.tool_floor.proofs.floor.ToolFloor.has_outside.Goals.{in-Some+else-is_outside_of, in_default}
use Rattle.tool_floor.proofs.floor.ToolFloor.has_outside.Goals as goal

pub returns-then-is_outside_of : goal.returns-then-is_outside_of
returns-then-is_outside_of c =
    sym (any_here (λ (s : Substrate). is_of c.args.carrier s && is_outside s c.args.self.now.places) c.args.self.now.substrates c.loop-place.place c.in-Some.s.now (shown c.substrate_at.ensures c.in-Some.is) (sym c.is_outside_of.ensures ∙ c.if-is_outside_of.true))
    ∙ c.loop-place.invariant

pub loop-place-preserved : goal.loop-place-preserved
loop-place-preserved c = elim c.match-substrate_at.branch [
  | in-Some+else-is_outside_of w ↦
      sym (any_next (λ (s : Substrate). is_of c.args.carrier s && is_outside s c.args.self.now.places) c.args.self.now.substrates c.loop-place.place w.in-Some.s.now (shown c.substrate_at.ensures w.in-Some.is) (sym w.is_outside_of.ensures ∙ w.if-is_outside_of.false))
      ∙ c.loop-place.invariant
  | in_default w ↦
      sym (any_past (λ (s : Substrate). is_of c.args.carrier s && is_outside s c.args.self.now.places) c.args.self.now.substrates c.loop-place.place (shown c.substrate_at.ensures w.in_default.is))
      ∙ c.loop-place.invariant
]

pub returns-then-not-is_any_at_work : goal.returns-then-not-is_any_at_work
returns-then-not-is_any_at_work c =
    sym (has_none_outside c.args.carrier c.self.inside.places c.self.inside.substrates (sym c.is_any_at_work.ensures ∙ c.if-not-is_any_at_work.true))
    ∙ ap (λ (f : ToolFloor). has_outside c.args.carrier f) c.self.view_is
