use Rattle.gem_model.proofs.Settling.{settles_so, settles_only}
use Rattle.gem_model.proofs.laws.a_state_settles_in_one_way.Goals as goal

pub returns-clause-one : goal.returns-clause-one
returns-clause-one c = settles_so

pub returns-clause-only : goal.returns-clause-only
returns-clause-only c = settles_only
