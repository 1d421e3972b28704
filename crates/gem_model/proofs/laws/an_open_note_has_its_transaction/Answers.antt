use Rattle.gem_model.proofs.NoteNumbers.{run-own}
use Rattle.gem_model.proofs.laws.an_open_note_has_its_transaction.Goals as goal

pub returns : goal.returns
returns c = run-own
