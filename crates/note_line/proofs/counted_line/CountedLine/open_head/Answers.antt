use Rattle.std.proofs.Common.{◌≡◌, Some, subst, sym}
use Rattle.note_line.specs.Line.{Line}
use Rattle.note_line.specs.Table3.{least}
use Rattle.note_line.proofs.Counting.{counted_head}
use Rattle.note_line.proofs.counted_line.CountedLine.open_head.Goals as goal

pub invariant_of-self : goal.invariant_of-self
invariant_of-self c =
    rw c.open_head.ensures
    (counted_head c.args.around c.self.inside.line c.self.inside.answered (subst (λ (l : Line). least c.args.around l ≡ Some 13) (sym c.self.view_is) c.requires) c.self.invariant)
