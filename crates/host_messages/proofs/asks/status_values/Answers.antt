use Rattle.host_messages.proofs.Counted.{few_status}
use Rattle.host_messages.proofs.asks.status_values.Goals as goal

pub returns-in_err-svids-clause-few : goal.returns-in_err-svids-clause-few
returns-in_err-svids-clause-few c = few_status c.args.seen.now c.args.ids.now c.few_alarms.ensures c.shown_names.ensures
