use Rattle.std.proofs.Common.{◌≡◌, ◌+◌, ◌*◌, ◌++◌, take}
use Rattle.item_model.specs.Height.{height, highest}
use Rattle.item_model.specs.View.{view, items_of}
use Rattle.item_words.specs.Words.{more_listed}
use Rattle.item_words.proofs.line.+words.Given as goal

abbrev pub decreases-add_item : goal.decreases-add_item
decreases-add_item l = 4 * height (view l.item.now)

abbrev pub decreases-add_list : goal.decreases-add_list
decreases-add_list l = 4 * highest (items_of l.items.now) + 3

abbrev pub decreases-add_listed : goal.decreases-add_listed
decreases-add_listed l = 4 * highest (items_of l.items.now) + 2

abbrev pub decreases-add_more : goal.decreases-add_more
decreases-add_more l = 4 * highest (items_of l.items.now) + 1

-- the items that were gone over
abbrev pub invariant-add_more-loop-item : goal.invariant-add_more-loop-item
invariant-add_more-loop-item l = l.out.items ≡ l.fn.out.items ++ more_listed (items_of (take l.item-index l.items))
