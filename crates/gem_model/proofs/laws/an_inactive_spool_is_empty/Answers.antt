use Rattle.gem_model.proofs.Validity.{run-empty}
use Rattle.gem_model.proofs.laws.an_inactive_spool_is_empty.Goals as goal

pub returns : goal.returns
returns c = run-empty
