use Rattle.std.proofs.Common.{rules, arith, ◌≡◌, ◌<◌, ◌≤◌, ◌++◌, length, codes, append_assoc}
use Rattle.item_model.specs.Height.{height, highest}
use Rattle.item_model.specs.View.{view, items_of}
use Rattle.item_model.proofs.Lists.{height_at}
use Rattle.item_words.specs.Layout.{laid, new_line}
use Rattle.item_words.proofs.Lists.{more_laid-take, piece_added}
use Rattle.item_words.proofs.layout.+laid.Goals as goal

-- an item of a list is less high than the list
pub add_more-add_laid-requires : goal.add_more-add_laid-requires
add_more-add_laid-requires t c =
    let at = c.loop-item.item-index in
    let within : at < length c.args.items.now = omega arith in
    let high : height (view c.item-item.result) ≤ highest (items_of c.args.items.now) =
    rw c.item-item.is (height_at c.args.items.now at c.item-item.result within) in
    search rules

pub add_more-loop-item-preserved : goal.add_more-loop-item-preserved
add_more-loop-item-preserved t c =
    let at = c.loop-item.item-index in
    let within : at < length c.args.items.now = omega arith in
    let more = more_laid-take c.args.margin c.args.items.now at c.item-item.result within in
    let piece : c.add_laid.new.out.items ≡ c.loop-item.out.items ++ (codes "," ++ (new_line c.args.margin ++ laid c.args.margin (view c.item-item.result))) =
    rw (c.in_ok-add_laid.ensures, c.in_ok-add_new_line.ensures, c.in_ok-extend_from_slice.ensures.items) (simp append_assoc) in
    piece_added c.args.out.now.items c.loop-item.out.items c.add_laid.new.out.items _ _ _ c.loop-item.invariant piece (rw (← c.item-item.is) at more)
