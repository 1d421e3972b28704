use Rattle.gem_model.proofs.Reporting.{run-texts, run-sent, run-frames}
use Rattle.gem_model.proofs.laws.each_note_has_the_text_of_its_own_firing.Goals as goal

pub returns-clause-standing : goal.returns-clause-standing
returns-clause-standing c = run-texts

pub returns-clause-sent : goal.returns-clause-sent
returns-clause-sent c = run-sent

pub returns-clause-frames : goal.returns-clause-frames
returns-clause-frames c = run-frames
