use Rattle.secs_items.proofs.OneItem.{one_spelled, spelled_one}
use Rattle.secs_items.proofs.laws.one_item_is_the_item_that_is_spelled.Goals as goal

pub returns : goal.returns
returns c text d below = (one_spelled text d below, spelled_one text d)
