use Rattle.gem_model.proofs.Floored.{run-floor, run-carriers, run-floor-along}
use Rattle.gem_model.proofs.laws.the_floor_stays_valid_in_a_history.Goals as goal

pub returns-clause-valid : goal.returns-clause-valid
returns-clause-valid c = run-floor

pub returns-clause-few : goal.returns-clause-few
returns-clause-few c = run-carriers

pub returns-clause-settling : goal.returns-clause-settling
returns-clause-settling c = run-floor-along
