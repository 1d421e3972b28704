use Rattle.std.proofs.Common.{◌∙◌, sym}
use Rattle.tool_floor.proofs.Located.{least_tells, substrates_told, shop_told, least_none}
use Rattle.tool_floor.proofs.resting.RestingFloor.least.Goals.{then-self-2, else-self-2, then-self-3, else-self-3, then-self-4, else-self-4}
use Rattle.tool_floor.proofs.resting.RestingFloor.least.Goals as goal

pub invariant_of-self : goal.invariant_of-self
invariant_of-self c = record {
  rest = least_none c.self.inside.floor c.least_where-least.result c.is_none-self-inside.result c.least_where-least.ensures c.is_none-self-inside.ensures;
  locations = λ is. elim c.if-self-2.branch [
    | then-self-2 w ↦ c.self.invariant.locations w.if-self-2.true
    | else-self-2 w ↦ least_tells c.self.inside.floor c.least_where-least.result (sym c.least_where-least.ensures) (w.is_past-self-inside.ensures (sym w.self-is ∙ is))
  ];
  substrates = λ is. elim c.if-self-3.branch [
    | then-self-3 w ↦ c.self.invariant.substrates w.if-self-3.true
    | else-self-3 w ↦ substrates_told c.self.inside.floor c.least_where-least.result (sym c.least_where-least.ensures) (w.is_past-self-inside-else-self-3.ensures (sym w.self-is ∙ is))
  ];
  shop = λ is. elim c.if-self-4.branch [
    | then-self-4 w ↦ c.self.invariant.shop w.if-self-4.true
    | else-self-4 w ↦ shop_told c.self.inside.floor c.least_where-least.result (sym c.least_where-least.ensures) (w.is_past-self-inside-else-self-4.ensures (sym w.self-is ∙ is))
  ];
}
