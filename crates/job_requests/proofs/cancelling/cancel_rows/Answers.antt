use Rattle.std.proofs.Common.{◌∙◌, option_to_list}
use Rattle.job_requests.proofs.Lists.{rows_step}
use Rattle.job_requests.proofs.cancelling.cancel_rows.Goals as goal

pub loop-name-preserved : goal.loop-name-preserved
loop-name-preserved c =
    c.in_ok-push_some.ensures
    ∙ rows_step c.args.names.now c.loop-name.name-index c.name-item.result c.args.jobs.now c.loop-name.rows (option_to_list c.command_row.result) c.loop-name-test.true c.name-item.is c.loop-name.invariant c.command_row.ensures
