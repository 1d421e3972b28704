use Rattle.std.proofs.Common.{arith}
use Rattle.host_messages.proofs.Few.{few_cancelled}
use Rattle.host_messages.proofs.jobs.few_cancelled.Goals as goal

pub returns-clause-few : goal.returns-clause-few
returns-clause-few c = grind (arith, c.len.ensures.few, c.process.ensures.jobs, c.cancelled.ensures, few_cancelled c.args.names.now c.args.jobs.now c.requires)
