use Rattle.host_messages.proofs.Counted.{few_status_names}
use Rattle.host_messages.proofs.asks.status_names.Goals as goal

pub returns-in_err-svids-clause-few : goal.returns-in_err-svids-clause-few
returns-in_err-svids-clause-few c = few_status_names c.args.seen.now c.args.ids.now

pub returns-clause-few : goal.returns-clause-few
returns-clause-few c = few_status_names c.args.seen.now c.args.ids.now
