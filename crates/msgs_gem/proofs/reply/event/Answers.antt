use Rattle.std.proofs.Common.{◌≡◌, ◌^◌}
use Rattle.std.proofs.lemmas.Result.{IfOk-weaker}
use Rattle.item_model.specs.View.{view}
use Rattle.item_model.specs.Weight.{IsBounded}
use Rattle.message_model.specs.GemReplies.{event as event_data}
use Rattle.msgs_gem.proofs.Bounds.{event_bounded}
use Rattle.msgs_gem.proofs.reply.event.Goals as goal

pub returns-clause-bounded : goal.returns-clause-bounded
returns-clause-bounded c few =
    IfOk-weaker c.list.result (λ item. view item ≡ event_data c.args.note c.args.ceid c.args.reports) (λ item. IsBounded 5 (2 ^ 31) (view item))
    (λ item is. rw is (event_bounded c.args.note c.args.ceid c.args.reports few))
    (rw (c.in_ok-note.ensures, c.in_ok-ceid.ensures) at c.list.ensures)
