use Rattle.data_variables.proofs.Sending.{namelist_sendable, names_bounded, names_counted}
use Rattle.data_variables.proofs.laws.values_and_names_can_be_sent.Goals as goal

pub returns-clause-namelist : goal.returns-clause-namelist
returns-clause-namelist c = namelist_sendable

pub returns-clause-bounded : goal.returns-clause-bounded
returns-clause-bounded c = names_bounded

pub returns-clause-counted : goal.returns-clause-counted
returns-clause-counted c = names_counted
