use Rattle.owed_laws.proofs.Beginning.{begins_undisturbed, begins_inside, begins_owed}
use Rattle.owed_laws.proofs.laws.each_command_is_owed_as_it_starts.Goals as goal

pub returns-clause-undisturbed : goal.returns-clause-undisturbed
returns-clause-undisturbed c = λ counted g v u b. begins_undisturbed counted g v b u

pub returns-clause-inside : goal.returns-clause-inside
returns-clause-inside c = λ counted g n v b kept is. begins_inside counted g v b n kept is

pub returns-clause-owed : goal.returns-clause-owed
returns-clause-owed c = λ planned counted g v b. begins_owed counted g v b planned
