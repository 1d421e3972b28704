use Rattle.std.proofs.Common.{◌∙◌, sym, subst}
use Rattle.std.proofs.lemmas.Bool.{true≢false}
use Rattle.tool_floor.proofs.Located.{HasPlaces, still_none, row_leaves, IsBeside, still_none_of, row_of_shop, IsLocated, still_none_of_shop, row_of_location}
use Rattle.tool_floor.proofs.resting.RestingFloor.fire.Goals.{then-self, else-self, then-self-2, else-self-2, then-self-3, else-self-3}
use Rattle.tool_floor.proofs.resting.RestingFloor.fire.Goals as goal

pub invariant_of-self-2 : goal.invariant_of-self-2
invariant_of-self-2 c = record {
  rest = λ e. absurd (true≢false (sym e));
  locations = λ is. elim c.if-self.branch [
    | then-self w ↦
        let leaves = row_leaves c.args.x c.self.inside.floor (sym w.leaves_places-locations_rest.ensures ∙ sym w.locations_rest-is ∙ is) in
        still_none c.self.inside.floor c.fire.new.self (subst (HasPlaces c.self.inside.floor) (sym c.in_ok-rows.ensures.ok) leaves) c.self.invariant.locations w.if-self.true
    | else-self w ↦ absurd (true≢false (sym is ∙ w.locations_rest-is ∙ w.if-self.false))
  ];
  substrates = λ is. elim c.if-self-2.branch [
    | then-self-2 w ↦
        let beside = row_of_shop c.args.x c.self.inside.floor (sym w.is_of_shop-substrates_rest.ensures ∙ sym w.substrates_rest-is ∙ is) in
        still_none_of c.self.inside.floor c.fire.new.self (subst (IsBeside c.self.inside.floor) (sym c.in_ok-rows.ensures.ok) beside) c.self.invariant.substrates w.if-self-2.true
    | else-self-2 w ↦ absurd (true≢false (sym is ∙ w.substrates_rest-is ∙ w.if-self-2.false))
  ];
  shop = λ is. elim c.if-self-3.branch [
    | then-self-3 w ↦
        let located = row_of_location c.args.x c.self.inside.floor (sym w.is_of_locations-shop_rests.ensures ∙ sym w.shop_rests-is ∙ is) in
        still_none_of_shop c.self.inside.floor c.fire.new.self (subst (IsLocated c.self.inside.floor) (sym c.in_ok-rows.ensures.ok) located) c.self.invariant.shop w.if-self-3.true
    | else-self-3 w ↦ absurd (true≢false (sym is ∙ w.shop_rests-is ∙ w.if-self-3.false))
  ];
}
