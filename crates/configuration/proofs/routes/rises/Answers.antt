use Rattle.std.proofs.Common.{◌-◌, ◌≤◌, drop, length, length-drop, sym, ◌∙◌, arith}
use Rattle.configuration.proofs.Steps.{one_rises}
use Rattle.configuration.proofs.routes.rises.Goals as goal

pub returns : goal.returns
returns c =
    let end = c.loop-number-test.false in
    let count = c.len-number-end.ensures.count in
    let few : length (drop (c.loop-number.number - 1) c.args.route.now) ≤ 1 = rw length-drop (omega (arith, end, count)) in
    sym (c.loop-number.invariant ∙ one_rises (drop (c.loop-number.number - 1) c.args.route.now) few)
