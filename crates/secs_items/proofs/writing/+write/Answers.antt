use Rattle.std.proofs.Common.{rules, ◌<◌, ◌≤◌, length, arith}
use Rattle.std.proofs.lemmas.Grind.{common_steps}
use Rattle.item_model.specs.Height.{height, highest}
use Rattle.item_model.specs.Sendable.{HasShortBodies}
use Rattle.item_model.specs.View.{view, items_of}
use Rattle.item_model.proofs.Lists.{count_of-items_of, bodies_at, height_at, plain_all-take, truths_written, piece_written}
use Rattle.secs_items.proofs.writing.+write.Goals as goal

pub write_item-returns-in-Bool-clause-ok : goal.write_item-returns-in-Bool-clause-ok
write_item-returns-in-Bool-clause-ok t c =
    rw (c.in-Bool.is, ← c.as_slice-in-Bool.ensures)
    (truths_written c.write_elements.result c.args.out.now.items c.write_elements.new.out.items c.as_slice-in-Bool.result.now c.write_elements.ensures.ok)

pub write_list-write_head-requires :
    goal.write_list-write_head-requires
write_list-write_head-requires t c = omega (arith, count_of-items_of c.args.items.now)

pub write_list-loop-item-init : goal.write_list-loop-item-init
write_list-loop-item-init t c =
    grind (arith, common_steps, count_of-items_of c.args.items.now)

pub write_list-write_item-requires : goal.write_list-write_item-requires
write_list-write_item-requires t c =
    let at = c.loop-item.item-index in
    let within : at < length c.args.items.now = omega arith in
    let high : height (view c.item-item.result) ≤ highest (items_of c.args.items.now) =
    rw c.item-item.is (height_at c.args.items.now at c.item-item.result within) in
    let short : HasShortBodies (view c.item-item.result) =
    rw c.item-item.is (bodies_at c.args.items.now at c.item-item.result c.requires.bodies within) in
    (search rules, short)

pub write_list-loop-item-preserved : goal.write_list-loop-item-preserved
write_list-loop-item-preserved t c =
    let at = c.loop-item.item-index in
    let within : at < length c.args.items.now = omega arith in
    let more = plain_all-take c.args.items.now at c.item-item.result within in
    piece_written c.args.out.now.items c.loop-item.out.items c.write_item.new.out.items _ _ _ _ c.loop-item.invariant c.in_ok-write_item.ensures.ok (rw (← c.item-item.is) at more)
