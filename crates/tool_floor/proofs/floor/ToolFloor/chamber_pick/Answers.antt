use Rattle.std.proofs.Common.{◌≡◌, ℕ, suc, ◌+◌, ◌-◌, ◌<◌, true, true≢false, Option, Some, None, is_some, refl, sym, ap, subst, ◌∙◌, arith}
use Rattle.gem_ids.specs.declared.numbers.LocId.TheVariants.{Chamber}
use Rattle.robot_moves.specs.declared.view.PlaceView.{PlaceView}
use Rattle.robot_moves.proofs.First.{is_nothing}
use Rattle.floor_model.specs.Views.{views}
use Rattle.floor_model.specs.Picks.{pick_at, chamber_pick, last_of}
use Rattle.floor_model.proofs.PlacePicks.{last_here, last_before}
use Rattle.tool_floor.proofs.floor.ToolFloor.chamber_pick.Goals as goal

-- the number that is reached when so many of the greatest were passed
module _ (gives : ℕ → Option PlaceView) (passed total : ℕ) (within : passed < total) where
  reached : total - passed ≡ suc (total - (passed + 1))
  reached = omega (arith, within)

  here : (o : Option PlaceView) → gives (total - passed) ≡ o → is_some o ≡ true → last_of gives (total - passed) ≡ o
  here None e some = absurd (true≢false (sym some))
  here (Some v) e some = ap (last_of gives) reached ∙ last_here gives (total - (passed + 1)) v (subst (λ (n : ℕ). gives n ≡ Some v) reached e)

  before : gives (total - passed) ≡ None → last_of gives (total - (passed + 1)) ≡ last_of gives (total - passed)
  before none = sym (ap (last_of gives) reached ∙ last_before gives (total - (passed + 1)) (subst (λ (n : ℕ). gives n ≡ None) reached none))

pub returns-then-is_some : goal.returns-then-is_some
returns-then-is_some c =
    let gives = chamber_pick (views c.args.self.now) c.args.modules.now in
    let n = c.saturating_sub-chambers.result - c.loop-passed.passed in
    let second : n + 2 ≡ suc (suc n) = omega arith in
    let found = c.pick_at-found.ensures ∙ ap (λ (k : ℕ). pick_at k (Chamber n) (views c.args.self.now) c.args.modules.now) second in
    found ∙ sym (here gives c.loop-passed.passed c.saturating_sub-chambers.result c.loop-passed-test.true _ refl (ap is_some (sym found) ∙ sym c.is_some.ensures ∙ c.if-is_some.true)) ∙ c.loop-passed.invariant

pub loop-passed-preserved : goal.loop-passed-preserved
loop-passed-preserved c =
    let gives = chamber_pick (views c.args.self.now) c.args.modules.now in
    let n = c.saturating_sub-chambers.result - c.loop-passed.passed in
    let second : n + 2 ≡ suc (suc n) = omega arith in
    let found = c.pick_at-found.ensures ∙ ap (λ (k : ℕ). pick_at k (Chamber n) (views c.args.self.now) c.args.modules.now) second in
    before gives c.loop-passed.passed c.saturating_sub-chambers.result c.loop-passed-test.true (sym found ∙ is_nothing _ (sym c.is_some.ensures ∙ c.if-is_some.false)) ∙ c.loop-passed.invariant
