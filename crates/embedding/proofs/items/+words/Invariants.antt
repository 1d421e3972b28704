use Rattle.std.proofs.Common.{◌+◌, ◌*◌}
use Rattle.item_model.specs.Height.{height, highest}
use Rattle.item_model.specs.View.{view, items_of}
use Rattle.embedding.proofs.items.+words.Given as goal

abbrev pub decreases-add_item : goal.decreases-add_item
decreases-add_item l = 2 * height (view l.item.now)

abbrev pub decreases-add_list : goal.decreases-add_list
decreases-add_list l = 2 * highest (items_of l.items.now) + 1
