use Rattle.std.proofs.Common.{◌≡◌, true, subst, sym}
use Rattle.note_line.specs.Line.{Line}
use Rattle.note_line.specs.Table3.{head_in_kind}
use Rattle.note_line.proofs.Counting.{counted_spool}
use Rattle.note_line.proofs.counted_line.CountedLine.spool_head.Goals as goal

pub invariant_of-self : goal.invariant_of-self
invariant_of-self c =
    rw c.spool_head.ensures
    (counted_spool c.args.around c.self.inside.line c.self.inside.answered (subst (λ (l : Line). head_in_kind l ≡ true) (sym c.self.view_is) c.requires) c.self.invariant)
