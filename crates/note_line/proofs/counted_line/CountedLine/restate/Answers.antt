use Rattle.note_line.proofs.Counting.{counted_restated}
use Rattle.note_line.proofs.counted_line.CountedLine.restate.Goals as goal

pub invariant_of-self : goal.invariant_of-self
invariant_of-self c = rw c.restate.ensures (counted_restated c.args.row c.self.inside.line c.self.inside.answered c.self.invariant)
