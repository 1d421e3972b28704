use Rattle.std.proofs.Common.{◌≡◌, ◌∙◌, subst}
use Rattle.item_model.specs.Data.{Data, added}
use Rattle.item_model.specs.View.{view}
use Rattle.item_model.proofs.Weights.{bounded-added}
use Rattle.msgs_gem.proofs.Printing.{printed_more, printed_bounded}
use Rattle.msgs_gem.proofs.reply.list_of.Goals as goal

pub loop-part-preserved : goal.loop-part-preserved
loop-part-preserved g c =
    let d : Data = view c.in_ok-item.field-0 in
    let is = subst (λ (e : Data). c.push.new.self ≡ added c.loop-part.items e) c.in_ok-item.ensures.exact c.in_ok-push.ensures.ok in
    let here = subst (λ x. c.push.new.self ≡ added c.loop-part.items (g.T.Printed.body x)) c.part-item.is is in (
      here ∙ printed_more g.T.Printed.body c.args.parts.now c.loop-part.part-index c.part-item.result c.loop-part.items c.loop-part-test.true c.loop-part.invariant.0,
      rw c.in_ok-push.ensures.ok (bounded-added 1 110 c.loop-part.items d c.loop-part.invariant.1 c.in_ok-item.ensures.bounded),
    )

pub returns-clause-bounded : goal.returns-clause-bounded
returns-clause-bounded g c few =
    printed_bounded g.T.Printed.body c.args.parts.now c.loop-part.part-index c.loop-part.items c.loop-part-test.false c.loop-part.invariant.0 c.loop-part.invariant.1 few
