use Rattle.std.proofs.Common.{◌∙◌}
use Rattle.job_requests.proofs.Lists.{once_step}
use Rattle.job_requests.proofs.cancelling.each_once.Goals as goal

pub loop-name-preserved : goal.loop-name-preserved
loop-name-preserved c =
    c.in_ok-push_new.ensures
    ∙ once_step c.args.names.now c.loop-name.name-index c.name-item.result c.loop-name.once c.loop-name-test.true c.name-item.is c.loop-name.invariant
