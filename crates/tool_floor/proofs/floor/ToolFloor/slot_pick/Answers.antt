use Rattle.std.proofs.Common.{◌≤◌, length, refl, sym, ◌∙◌, arith}
use Rattle.floor_model.specs.declared.tracked.Substrate.{Substrate}
use Rattle.floor_model.specs.Picks.{slot_pick}
use Rattle.floor_model.proofs.Scans.{shown}
use Rattle.floor_model.proofs.SlotPicks.{given_here, given_next, given_past, given_end}
use Rattle.tool_floor.proofs.floor.ToolFloor.slot_pick.Goals.{in-Some+in_default-slot_pick_of, in_default}
use Rattle.tool_floor.proofs.floor.ToolFloor.slot_pick.Goals as goal

pub loop-place-init : goal.loop-place-init
loop-place-init c = refl

pub returns-in-Some-slot_pick_of-clause-value : goal.returns-in-Some-slot_pick_of-clause-value
returns-in-Some-slot_pick_of-clause-value c =
    sym (given_here (λ (s : Substrate). slot_pick s c.args.self.now c.args.modules.now) c.args.self.now.substrates c.loop-place.place c.in-Some.s.now c.in-Some-slot_pick_of.v (shown c.substrate_at.ensures c.in-Some.is) (sym c.slot_pick_of.ensures ∙ c.in-Some-slot_pick_of.is))
    ∙ c.loop-place.invariant

pub loop-place-preserved : goal.loop-place-preserved
loop-place-preserved c = elim c.match-substrate_at.branch [
  | in-Some+in_default-slot_pick_of w ↦
      sym (given_next (λ (s : Substrate). slot_pick s c.args.self.now c.args.modules.now) c.args.self.now.substrates c.loop-place.place w.in-Some.s.now (shown c.substrate_at.ensures w.in-Some.is) (sym w.slot_pick_of.ensures ∙ w.in_default-slot_pick_of.is))
      ∙ c.loop-place.invariant
  | in_default w ↦
      sym (given_past (λ (s : Substrate). slot_pick s c.args.self.now c.args.modules.now) c.args.self.now.substrates c.loop-place.place (shown c.substrate_at.ensures w.in_default.is))
      ∙ c.loop-place.invariant
]

pub returns-clause-value : goal.returns-clause-value
returns-clause-value c =
    let past : length c.args.self.now.substrates ≤ c.loop-place.place = omega (arith, c.loop-place-test.false, c.substrate_count-place-end.ensures.count) in
    sym (given_end (λ (s : Substrate). slot_pick s c.args.self.now c.args.modules.now) c.args.self.now.substrates c.loop-place.place past)
    ∙ c.loop-place.invariant
