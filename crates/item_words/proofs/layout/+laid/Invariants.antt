use Rattle.std.proofs.Common.{◌≡◌, ◌+◌, ◌*◌, ◌++◌, take}
use Rattle.item_model.specs.Height.{height, highest}
use Rattle.item_model.specs.View.{view, items_of}
use Rattle.item_words.specs.Layout.{more_laid}
use Rattle.item_words.proofs.layout.+laid.Given as goal

abbrev pub decreases-add_laid : goal.decreases-add_laid
decreases-add_laid l = 4 * height (view l.item.now)

abbrev pub decreases-add_broken : goal.decreases-add_broken
decreases-add_broken l = 4 * highest (items_of l.items.now) + 3

abbrev pub decreases-add_items : goal.decreases-add_items
decreases-add_items l = 4 * highest (items_of l.items.now) + 2

abbrev pub decreases-add_more : goal.decreases-add_more
decreases-add_more l = 4 * highest (items_of l.items.now) + 1

-- the items that were gone over
abbrev pub invariant-add_more-loop-item : goal.invariant-add_more-loop-item
invariant-add_more-loop-item l = l.out.items ≡ l.fn.out.items ++ more_laid l.fn.margin (items_of (take l.item-index l.items))
