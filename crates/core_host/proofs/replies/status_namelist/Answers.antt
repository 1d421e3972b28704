use Rattle.std.proofs.Common.{◌≡◌, ◌∙◌, ap, map}
use Rattle.message_model.specs.declared.gem_reply.GemReply.TheVariants as reply
use Rattle.gem_model.specs.State.{State}
use Rattle.gem_model.specs.Messages.{or_all, status_name}
use Rattle.gem_model.specs.Values.{svids}
use Rattle.core_host.proofs.replies.status_namelist.Goals as goal

pub returns-clause-reply : goal.returns-clause-reply
returns-clause-reply c =
    ap reply.S1F12 (c.in_ok-status_names.ensures.names ∙ ap (λ (g : State). map (status_name g) (or_all (svids g) c.args.ids.now)) c.seen.ensures)
