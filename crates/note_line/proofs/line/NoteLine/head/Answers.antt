use Rattle.note_line.specs.Kept.{line_of}
use Rattle.note_line.proofs.Stays.{head-short}
use Rattle.note_line.proofs.line.NoteLine.head.Goals as goal

pub returns-clause-short : goal.returns-clause-short
returns-clause-short c = head-short (line_of c.self.inside) c.front.result c.self.invariant.short c.front.ensures.item.0 c.front.ensures.lookup
