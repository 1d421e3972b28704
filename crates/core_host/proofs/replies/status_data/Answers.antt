use Rattle.std.proofs.Common.{◌≡◌, ◌∙◌, ap}
use Rattle.event_reports.specs.Reports.{value_items}
use Rattle.message_model.specs.declared.gem_reply.GemReply.TheVariants as reply
use Rattle.gem_model.specs.State.{State}
use Rattle.gem_model.specs.Messages.{or_all}
use Rattle.gem_model.specs.Values.{status_value, svids}
use Rattle.core_host.proofs.replies.status_data.Goals as goal

pub returns-clause-reply : goal.returns-clause-reply
returns-clause-reply c =
    ap reply.S1F4 (c.in_ok-status_values.ensures.values ∙ ap (λ (g : State). value_items (status_value g) (or_all (svids g) c.args.ids.now)) c.seen.ensures)
