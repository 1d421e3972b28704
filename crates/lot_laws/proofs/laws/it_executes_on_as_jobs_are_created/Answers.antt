use Rattle.lot_laws.proofs.Inputs.{created-executes, added-executes, headed-executes, fetched-executes}
use Rattle.lot_laws.proofs.laws.it_executes_on_as_jobs_are_created.Goals as goal

pub returns-clause-process : goal.returns-clause-process
returns-clause-process c = λ number planned counted f spec h t s e free. created-executes number planned counted f h t s e spec free

pub returns-clause-control : goal.returns-clause-control
returns-clause-control c = λ number planned counted f name named auto h t s e free. added-executes number planned counted f h t s e name named auto free

pub returns-clause-head : goal.returns-clause-head
returns-clause-head c = λ number planned counted f name h t s e. headed-executes number planned counted f h t s e name

pub returns-clause-fetched : goal.returns-clause-fetched
returns-clause-fetched c = λ number planned counted f m e. fetched-executes number planned counted f e m
