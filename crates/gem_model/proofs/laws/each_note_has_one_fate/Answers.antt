use Rattle.gem_model.proofs.Validity.{run-line, run-stays}
use Rattle.gem_model.proofs.laws.each_note_has_one_fate.Goals as goal

pub returns-clause-valid : goal.returns-clause-valid
returns-clause-valid c = run-line

pub returns-clause-stays : goal.returns-clause-stays
returns-clause-stays c = run-stays
