use Rattle.lot_laws.proofs.Controls.{completion_owes_none, rest_owes}
use Rattle.lot_laws.proofs.laws.it_completes_where_no_done_is_owed.Goals as goal

pub returns-clause-ready : goal.returns-clause-ready
returns-clause-ready c = λ number planned counted f row here h t s e ready. completion_owes_none number planned counted f h t s e here row ready

pub returns-clause-at_rest : goal.returns-clause-at_rest
returns-clause-at_rest c = λ number planned counted f h t s e rest zero. rest_owes number planned counted f h t s e rest zero
