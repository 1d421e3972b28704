use Rattle.lot_laws.proofs.Processes.{process-executes}
use Rattle.lot_laws.proofs.laws.it_executes_on_behind_rows_of_process_jobs.Goals as goal

pub returns-clause-executes : goal.returns-clause-executes
returns-clause-executes c = λ number planned counted f n row j h t s e known starts calm. (process-executes number planned counted f h t s e n j known row starts calm).0

pub returns-clause-as_much : goal.returns-clause-as_much
returns-clause-as_much c = λ number planned counted f n row j h t s e known starts calm. (process-executes number planned counted f h t s e n j known row starts calm).1
