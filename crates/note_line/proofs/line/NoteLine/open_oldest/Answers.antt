use Rattle.std.proofs.Common.{subst}
use Rattle.note_line.specs.Kept.{line_of}
use Rattle.note_line.specs.Kept.{KeptLine}
use Rattle.note_line.proofs.Rows.{oldest-goes}
use Rattle.note_line.proofs.Stays.{stays, of_oldest}
use Rattle.note_line.proofs.line.NoteLine.open_oldest.Goals as goal

pub invariant_of-self : goal.invariant_of-self
invariant_of-self c =
    let l = line_of c.self.inside in
    let none = rw (← c.self.view_is) at c.requires in
    let kept = stays l _ (oldest-goes l none c.self.invariant.valid) c.self.invariant in
    rw (c.set_fate.ensures, c.next.ensures.after) (subst KeptLine (of_oldest l c.in-Some.oldest c.in-Some.ensures.taken) kept)
