use Rattle.note_line.proofs.Keeps.{has-fate}
use Rattle.note_line.proofs.laws.each_note_has_a_fate.Goals as goal

pub returns : goal.returns
returns c = has-fate
