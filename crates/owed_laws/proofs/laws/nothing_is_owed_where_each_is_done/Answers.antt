use Rattle.owed_laws.proofs.Beginning.{step_to_come, nothing_left, each_done}
use Rattle.owed_laws.proofs.laws.nothing_is_owed_where_each_is_done.Goals as goal

pub returns-clause-done : goal.returns-clause-done
returns-clause-done c = nothing_left

pub returns-clause-nothing : goal.returns-clause-nothing
returns-clause-nothing c = λ planned counted g v fits z. each_done planned counted g v (step_to_come planned g v fits) z
