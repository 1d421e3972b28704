use Rattle.std.proofs.Common.{◌≡◌, ◌∙◌, subst}
use Rattle.item_model.specs.Data.{Data, added}
use Rattle.item_model.specs.View.{view}
use Rattle.message_model.specs.GemReplies.{stream_refusal}
use Rattle.msgs_gem.proofs.Printing.{printed_more}
use Rattle.msgs_gem.proofs.reply.stream_refusals.Goals as goal

pub loop-refusal-preserved : goal.loop-refusal-preserved
loop-refusal-preserved c =
    let d : Data = view c.in_ok-stream_refusal.field-0 in
    let is = subst (λ (e : Data). c.push.new.self ≡ added c.loop-refusal.items e) c.in_ok-stream_refusal.ensures c.in_ok-push.ensures.ok in
    let here = subst (λ x. c.push.new.self ≡ added c.loop-refusal.items (stream_refusal x)) c.refusal-item.is is in
    here ∙ printed_more stream_refusal c.args.refusals.now c.loop-refusal.refusal-index c.refusal-item.result c.loop-refusal.items c.loop-refusal-test.true c.loop-refusal.invariant
