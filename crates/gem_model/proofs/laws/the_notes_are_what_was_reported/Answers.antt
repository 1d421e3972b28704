use Rattle.gem_model.proofs.Reporting.{run-tells, run-reported}
use Rattle.gem_model.proofs.laws.the_notes_are_what_was_reported.Goals as goal

pub returns-clause-all : goal.returns-clause-all
returns-clause-all c = run-reported

pub returns-clause-more : goal.returns-clause-more
returns-clause-more c = run-tells
