use Rattle.note_line.proofs.Counting.{counted_begun}
use Rattle.note_line.proofs.counted_line.CountedLine.begin_unload.Goals as goal

pub invariant_of-self : goal.invariant_of-self
invariant_of-self c = rw c.begin_unload.ensures.after (counted_begun c.args.rsdc c.args.around c.self.inside.line c.self.inside.answered c.self.invariant)
