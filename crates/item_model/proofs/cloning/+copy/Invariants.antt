use Rattle.std.proofs.Common.{◌≡◌, ◌+◌, ◌*◌, take}
use Rattle.item_model.specs.Height.{height, highest}
use Rattle.item_model.specs.View.{view, items_of}
use Rattle.item_model.proofs.cloning.+copy.Given as goal

abbrev pub decreases-copy : goal.decreases-copy
decreases-copy l = 2 * height (view l.item.now)

abbrev pub decreases-copy_all : goal.decreases-copy_all
decreases-copy_all l = 2 * highest (items_of l.items.now) + 1

-- the items that were gone over are copied
abbrev pub invariant-copy_all-loop-item : goal.invariant-copy_all-loop-item
invariant-copy_all-loop-item l = l.copies ≡ items_of (take l.item-index l.items)
