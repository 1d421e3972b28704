use Rattle.item_model.proofs.Weights.{bounded-list}
use Rattle.secs_items.proofs.laws.a_list_of_bounded_items_is_bounded.Goals as goal

pub returns : goal.returns
returns c = bounded-list
