use Rattle.std.proofs.Common.{◌≡◌, ◌+◌, ◌*◌, ◌++◌, take}
use Rattle.item_model.specs.Height.{height, highest}
use Rattle.item_model.specs.Plain.{plain_head, plain_all, count_of}
use Rattle.item_model.specs.View.{view, items_of}
use Rattle.secs_items.proofs.writing.+write.Given as goal

abbrev pub decreases-write_item : goal.decreases-write_item
decreases-write_item l = 2 * height (view l.item.now)

abbrev pub decreases-write_list : goal.decreases-write_list
decreases-write_list l = 2 * highest (items_of l.items.now) + 1

-- the header and the items that were gone over
abbrev pub invariant-write_list-loop-item : goal.invariant-write_list-loop-item
invariant-write_list-loop-item l =
    l.out.items ≡ l.fn.out.items ++ (plain_head 0 (count_of (items_of l.items)) ++ plain_all (items_of (take l.item-index l.items)))
