use Rattle.std.proofs.Common.{rules, arith, ◌<◌, ◌≤◌, length}
use Rattle.item_model.specs.Height.{height, highest}
use Rattle.item_model.specs.View.{view, items_of}
use Rattle.item_model.proofs.Lists.{height_at}
use Rattle.embedding.proofs.items.+words.Goals as goal

-- an item of a list is less high than the list
pub add_list-add_item-requires : goal.add_list-add_item-requires
add_list-add_item-requires t c =
    let at = c.loop-item.item-index in
    let within : at < length c.args.items.now = omega arith in
    let high : height (view c.item-item.result) ≤ highest (items_of c.args.items.now) =
    rw c.item-item.is (height_at c.args.items.now at c.item-item.result within) in
    search rules
