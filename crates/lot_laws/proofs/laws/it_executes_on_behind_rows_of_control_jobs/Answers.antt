use Rattle.std.proofs.Common.{refl}
use Rattle.lot_laws.proofs.Controls.{control-executes}
use Rattle.lot_laws.proofs.laws.it_executes_on_behind_rows_of_control_jobs.Goals as goal

pub returns-clause-executes : goal.returns-clause-executes
returns-clause-executes c = λ number planned counted f m row d h t s e at starts calm on. control-executes number planned counted f h t s e row m d at starts calm on

pub returns-clause-as_much : goal.returns-clause-as_much
returns-clause-as_much c = λ planned counted f m row. refl
