use Rattle.note_line.proofs.Counting.{counted_kinds}
use Rattle.note_line.proofs.counted_line.CountedLine.set_kinds.Goals as goal

pub invariant_of-self : goal.invariant_of-self
invariant_of-self c = rw c.set_kinds.ensures (counted_kinds c.args.kinds c.self.inside.line c.self.inside.answered c.self.invariant)
