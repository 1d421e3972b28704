use Rattle.item_model.proofs.Weights.{plain-weight}
use Rattle.secs_items.proofs.laws.an_item_takes_at_most_what_it_weighs.Goals as goal

pub returns : goal.returns
returns c = plain-weight
