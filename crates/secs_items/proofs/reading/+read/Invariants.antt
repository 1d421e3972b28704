use Rattle.std.proofs.Common.{◌≡◌, ◌≤◌, ◌+◌, ◌*◌, ◌-◌, length}
use Rattle.item_model.specs.Reading.{items_at, item_at}
use Rattle.secs_items.proofs.InTurn.{behind_items}
use Rattle.secs_items.proofs.reading.+read.Given as goal

abbrev pub decreases-read_item : goal.decreases-read_item
decreases-read_item l = 2 * l.levels

abbrev pub decreases-read_list : goal.decreases-read_list
decreases-read_list l = 2 * l.levels + 1

-- the items that were read and those that are to come are the items of the list
abbrev pub invariant-read_list-loop : goal.invariant-read_list-loop
invariant-read_list-loop l =
    (length l.rest ≤ length l.initial.rest)
    × (behind_items l.items (items_at (item_at l.levels l.total) (l.count - l.counter) l.rest)
    ≡ items_at (item_at l.levels l.total) l.count l.initial.rest)
