use Rattle.std.proofs.Common.{arith, ◌≡◌, ◌/◌, ◌-◌, ◌+◌, ℕ, suc, length, drop, ap, ◌∙◌}
use Rattle.item_model.specs.Reading.{elements_at}
use Rattle.secs_items.proofs.InTurn.{elements_step}
use Rattle.secs_items.proofs.reading.read_elements.Goals as goal

pub nonzero_div-count : goal.nonzero_div-count
nonzero_div-count g c = omega (arith, g.met.T.Element.wide, c.WIDTH.ensures)

pub loop-preserved : goal.loop-preserved
loop-preserved g c =
    let count = length c.args.bytes.now / c.WIDTH.result in
    let w : ℕ = g.T.Element.WIDTH in
    let next : count - c.loop.counter ≡ suc (count - (c.loop.counter + 1)) = omega (arith, c.loop-test.true) in
    let back : c.split_at.result.1.now ≡ drop w c.loop.rest.now = c.split_at.ensures.back ∙ ap (λ (n : ℕ). drop n c.loop.rest.now) c.WIDTH-in-loop.ensures in
    let step = elements_step g.T.Element.read_from w (count - c.loop.counter) (count - (c.loop.counter + 1)) c.loop.elements.items
    (elements_at g.T.Element.read_from w count c.args.bytes.now) c.loop.rest.now next c.loop.invariant.0 c.loop.invariant.1 in
    rw (back, c.in_ok-push.ensures.items, c.read.ensures) step
