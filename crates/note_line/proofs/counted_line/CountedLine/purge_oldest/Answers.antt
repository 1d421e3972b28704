use Rattle.note_line.proofs.Counting.{counted_purge}
use Rattle.note_line.proofs.counted_line.CountedLine.purge_oldest.Goals as goal

pub invariant_of-self : goal.invariant_of-self
invariant_of-self c = rw c.purge_oldest.ensures (counted_purge c.self.inside.line c.self.inside.answered c.self.invariant)
