use Rattle.host_messages.proofs.Counted.{few_names}
use Rattle.host_messages.proofs.asks.constant_names.Goals as goal

pub returns-clause-few : goal.returns-clause-few
returns-clause-few c few = few_names c.args.ids.now few

pub returns-in_err-item-clause-few : goal.returns-in_err-item-clause-few
returns-in_err-item-clause-few c few = few_names c.args.ids.now few
