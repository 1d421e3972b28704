use Rattle.std.proofs.Common.{arith, ◌≡◌, ◌+◌, ◌-◌, suc}
use Rattle.std.proofs.lemmas.Result.{err_from_is_err_and, IfOk-weaker}
use Rattle.item_model.specs.Reading.{item_at, items_at}
use Rattle.item_model.specs.View.{view}
use Rattle.secs_items.proofs.Stepping.{fails_item, leaf_item, deep_item, list_item, other_list, fails_length, fails_items, whole_list}
use Rattle.secs_items.proofs.InTurn.{items_step, items_end, items_fail}
use Rattle.secs_items.proofs.reading.+read.Goals as goal

pub read_item-returns-in_err-format-clause-exact :
    goal.read_item-returns-in_err-format-clause-exact
read_item-returns-in_err-format-clause-exact t c =
    let p = err_from_is_err_and c.from_residual.result c.from_residual.ensures.1 in
    rw (p.1, p.2) (fails_item c.args.levels c.args.total c.args.bytes.now c.in_err-format.field-0.0 c.in_err-format.ensures.exact)

pub read_item-returns-in-List-clause-exact : goal.read_item-returns-in-List-clause-exact
read_item-returns-in-List-clause-exact t c =
    rw c.if-levels-eq0.true (deep_item c.args.total c.in_ok-format.size c.args.bytes.now c.in_ok-format.rest.now (rw c.in-List.is at c.in_ok-format.ensures.exact))

pub read_item-returns-in-List-2-clause-exact : goal.read_item-returns-in-List-2-clause-exact
read_item-returns-in-List-2-clause-exact t c =
    let up : c.args.levels ≡ suc (c.args.levels - 1) = omega arith in
    let step = list_item (c.args.levels - 1) c.args.total c.in_ok-format.size c.args.bytes.now c.in_ok-format.rest.now (rw c.in-List-2.is at c.in_ok-format.ensures.exact) in
    rw (up, step) c.read_list.ensures.exact

pub read_item-returns-in_default : goal.read_item-returns-in_default
read_item-returns-in_default t c =
    let step = leaf_item c.args.levels c.args.total c.in_ok-format.size c.args.bytes.now c.in_ok-format.rest.now c.in_ok-format.format
    c.in_ok-format.ensures.exact (other_list c.in_ok-format.format c.in_default.not-List) in
    record { exact = rw step c.read_leaf.ensures.exact; rest = IfOk-weaker c.read_leaf.result _ _ (λ r short. omega (arith, c.in_ok-format.ensures.rest)) c.read_leaf.ensures.rest }

pub read_list-returns-in_err-count-clause-exact : goal.read_list-returns-in_err-count-clause-exact
read_list-returns-in_err-count-clause-exact t c =
    let p = err_from_is_err_and c.from_residual.result c.from_residual.ensures.1 in
    rw (p.1, p.2) (fails_length (item_at c.args.levels c.args.total) c.args.total c.args.size c.args.bytes.now c.in_err-count.field-0.0 c.in_err-count.ensures.exact)

pub read_list-returns-in_err-item-clause-exact : goal.read_list-returns-in_err-item-clause-exact
read_list-returns-in_err-item-clause-exact t c =
    let one = item_at c.args.levels c.args.total in
    let left = c.in_ok-count.count - c.loop.counter in
    let next : left ≡ suc (left - 1) = omega (arith, c.loop-test.true) in
    let p = err_from_is_err_and c.from_residual-in_err-item.result c.from_residual-in_err-item.ensures.1 in
    let failed = items_fail c.in_err-item.field-0.0 one left (left - 1) c.loop.items c.loop.rest.now (items_at one c.in_ok-count.count c.in_ok-count.rest.now)
    next c.in_err-item.ensures.exact c.loop.invariant.1 in
    rw (p.1, p.2)
    (fails_items one c.args.total c.args.size c.in_ok-count.count c.args.bytes.now c.in_ok-count.rest.now c.in_err-item.field-0.0 c.in_ok-count.ensures.exact failed)

pub read_list-loop-preserved : goal.read_list-loop-preserved
read_list-loop-preserved t c =
    let one = item_at c.args.levels c.args.total in
    let left = c.in_ok-count.count - c.loop.counter in
    let next : left ≡ suc (c.in_ok-count.count - (c.loop.counter + 1)) = omega (arith, c.loop-test.true) in
    let step = items_step one left (c.in_ok-count.count - (c.loop.counter + 1)) c.loop.items (view c.in_ok-item.item) c.loop.rest.now c.in_ok-item.behind.now
    (items_at one c.in_ok-count.count c.in_ok-count.rest.now) next c.in_ok-item.ensures.exact c.loop.invariant.1 in
    (omega (arith, c.in_ok-item.ensures.rest), rw c.in_ok-push.ensures.ok step)

pub read_list-returns-clause-exact : goal.read_list-returns-clause-exact
read_list-returns-clause-exact t c =
    let one = item_at c.args.levels c.args.total in
    let none : c.in_ok-count.count - c.loop.counter ≡ 0 = omega (arith, c.loop-test.false) in
    whole_list one c.args.total c.args.size c.in_ok-count.count c.args.bytes.now c.in_ok-count.rest.now c.loop.rest.now c.loop.items c.in_ok-count.ensures.exact
    (items_end one (c.in_ok-count.count - c.loop.counter) c.loop.items c.loop.rest.now _ none c.loop.invariant.1)
