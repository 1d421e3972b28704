use Rattle.gem_model.proofs.Validity.{run-ended}
use Rattle.gem_model.proofs.laws.a_note_that_ended_is_not_sent_again.Goals as goal

pub returns : goal.returns
returns c = run-ended
