use Rattle.std.proofs.Common.{rules, arith, ◌≡◌, ◌<◌, ◌≤◌, ◌++◌, length, codes, append_assoc}
use Rattle.item_model.specs.Height.{height, highest}
use Rattle.item_model.specs.View.{view, items_of}
use Rattle.item_model.proofs.Lists.{height_at}
use Rattle.item_words.specs.Words.{words}
use Rattle.item_words.proofs.Lists.{more_listed-take, piece_added}
use Rattle.item_words.proofs.line.+words.Goals as goal

-- an item of a list is less high than the list
pub add_more-add_item-requires : goal.add_more-add_item-requires
add_more-add_item-requires t c =
    let at = c.loop-item.item-index in
    let within : at < length c.args.items.now = omega arith in
    let high : height (view c.item-item.result) ≤ highest (items_of c.args.items.now) =
    rw c.item-item.is (height_at c.args.items.now at c.item-item.result within) in
    search rules

pub add_more-loop-item-preserved : goal.add_more-loop-item-preserved
add_more-loop-item-preserved t c =
    let at = c.loop-item.item-index in
    let within : at < length c.args.items.now = omega arith in
    let more = more_listed-take c.args.items.now at c.item-item.result within in
    let piece : c.add_item.new.out.items ≡ c.loop-item.out.items ++ (codes ", " ++ words (view c.item-item.result)) =
    rw (c.in_ok-add_item.ensures, c.in_ok-extend_from_slice.ensures.items) (append_assoc c.loop-item.out.items _ _) in
    piece_added c.args.out.now.items c.loop-item.out.items c.add_item.new.out.items _ _ _ c.loop-item.invariant piece (rw (← c.item-item.is) at more)
