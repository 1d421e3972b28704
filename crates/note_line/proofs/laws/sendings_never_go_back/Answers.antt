use Rattle.note_line.proofs.Sendings.{never-back}
use Rattle.note_line.proofs.laws.sendings_never_go_back.Goals as goal

pub returns : goal.returns
returns c = never-back
