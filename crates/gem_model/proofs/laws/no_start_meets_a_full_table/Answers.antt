use Rattle.gem_model.proofs.Validity.{run-room, run-open, run-along}
use Rattle.gem_model.proofs.laws.no_start_meets_a_full_table.Goals as goal

pub returns-clause-room : goal.returns-clause-room
returns-clause-room c = run-room

pub returns-clause-two_open : goal.returns-clause-two_open
returns-clause-two_open c = run-open

pub returns-clause-settling : goal.returns-clause-settling
returns-clause-settling c = run-along
