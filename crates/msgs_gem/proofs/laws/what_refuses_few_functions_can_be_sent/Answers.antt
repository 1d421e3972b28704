use Rattle.msgs_gem.proofs.Spooling.{few_refused}
use Rattle.msgs_gem.proofs.laws.what_refuses_few_functions_can_be_sent.Goals as goal

pub returns : goal.returns
returns c refused streams rspack fewer few = few_refused refused streams fewer few
