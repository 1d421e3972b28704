use Rattle.note_line.proofs.Counting.{counted_drop}
use Rattle.note_line.proofs.counted_line.CountedLine.drop_head.Goals as goal

pub invariant_of-self : goal.invariant_of-self
invariant_of-self c = rw c.drop_head.ensures (counted_drop c.self.inside.line c.self.inside.answered c.self.invariant)
