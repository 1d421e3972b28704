use Rattle.lot_laws.proofs.Disturbs.{at_base, executes_at_end}
use Rattle.lot_laws.proofs.Words.{word-goes, created-goes, added-goes, headed-goes}
use Rattle.lot_laws.proofs.laws.an_input_leaves_it_at_work_or_disturbs_it_for_good.Goals as goal

pub returns-clause-comes : goal.returns-clause-comes
returns-clause-comes c = λ number planned counted f e. at_base number planned counted f e

pub returns-clause-word : goal.returns-clause-word
returns-clause-word c = λ number planned counted before f x o word starts goes. word-goes number planned counted before f o x word starts goes

pub returns-clause-process : goal.returns-clause-process
returns-clause-process c = λ number planned counted before f spec o free goes. created-goes number planned counted before f o spec free goes

pub returns-clause-control : goal.returns-clause-control
returns-clause-control c = λ number planned counted before f name named auto o free goes. added-goes number planned counted before f o name named auto free goes

pub returns-clause-head : goal.returns-clause-head
returns-clause-head c = λ number planned counted before f name o goes. headed-goes number planned counted before f o name goes

pub returns-clause-executes : goal.returns-clause-executes
returns-clause-executes c = λ number planned counted before f goes calm. (executes_at_end number planned counted before f goes calm).0

pub returns-clause-as_much : goal.returns-clause-as_much
returns-clause-as_much c = λ number planned counted before f goes calm. (executes_at_end number planned counted before f goes calm).1
