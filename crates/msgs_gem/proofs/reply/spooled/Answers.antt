use Rattle.std.proofs.Common.{◌≡◌, ◌^◌}
use Rattle.std.proofs.lemmas.Result.{IfOk-weaker}
use Rattle.item_model.specs.View.{view}
use Rattle.item_model.specs.Weight.{IsBounded}
use Rattle.message_model.specs.GemReplies.{spooling}
use Rattle.msgs_gem.proofs.RefusedParts.{spooling_bounded}
use Rattle.msgs_gem.proofs.reply.spooled.Goals as goal

pub returns-clause-bounded : goal.returns-clause-bounded
returns-clause-bounded c few =
    IfOk-weaker c.list.result (λ item. view item ≡ spooling c.args.rspack c.args.refusals.now) (λ item. IsBounded 5 (2 ^ 31) (view item))
    (λ item is. rw is (spooling_bounded c.args.rspack c.args.refusals.now few))
    (rw (c.in_ok-code.ensures, c.in_ok-stream_refusals.ensures) at c.list.ensures)
