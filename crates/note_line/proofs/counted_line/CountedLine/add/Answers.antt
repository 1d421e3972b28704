use Rattle.note_line.proofs.Counting.{counted_added}
use Rattle.note_line.proofs.counted_line.CountedLine.add.Goals as goal

pub invariant_of-self : goal.invariant_of-self
invariant_of-self c =
    counted_added c.add.result c.args.kind c.args.id c.args.text c.self.inside.line c.add.new.self c.self.inside.answered c.add.ensures.ok c.add.ensures.err c.self.invariant
