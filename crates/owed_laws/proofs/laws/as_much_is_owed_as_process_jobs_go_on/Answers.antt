use Rattle.std.proofs.Common.{refl}
use Rattle.owed_laws.proofs.laws.as_much_is_owed_as_process_jobs_go_on.Goals as goal

pub returns-clause-undisturbed : goal.returns-clause-undisturbed
returns-clause-undisturbed c = λ counted g view u right. record { jobs = right; substrates = u.substrates }

pub returns-clause-as_much : goal.returns-clause-as_much
returns-clause-as_much c = λ planned counted g view. refl
