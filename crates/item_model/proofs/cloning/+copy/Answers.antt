use Rattle.std.proofs.Common.{rules, arith, ◌<◌, ◌≤◌, length, sym}
use Rattle.item_model.specs.Height.{height, highest}
use Rattle.item_model.specs.View.{view, items_of}
use Rattle.item_model.proofs.Lists.{height_at, items_of-take}
use Rattle.item_model.proofs.cloning.+copy.Goals as goal

pub copy_all-copy-requires : goal.copy_all-copy-requires
copy_all-copy-requires t c =
    let at = c.loop-item.item-index in
    let within : at < length c.args.items.now = omega arith in
    let high : height (view c.item-item.result) ≤ highest (items_of c.args.items.now) =
    rw c.item-item.is (height_at c.args.items.now at c.item-item.result within) in
    (search rules, tt)

pub copy_all-loop-item-preserved : goal.copy_all-loop-item-preserved
copy_all-loop-item-preserved t c =
    let at = c.loop-item.item-index in
    let within : at < length c.args.items.now = omega arith in
    let more = items_of-take c.args.items.now at c.item-item.result within in
    let here = rw (← c.item-item.is) at more in
    rw (c.in_ok-push.ensures.ok, c.in_ok-copy.ensures, c.loop-item.invariant) (sym here)
