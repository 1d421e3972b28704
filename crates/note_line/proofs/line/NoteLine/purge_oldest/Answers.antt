use Rattle.std.proofs.Common.{subst}
use Rattle.note_line.specs.Kept.{line_of}
use Rattle.note_line.specs.Kept.{KeptLine}
use Rattle.note_line.proofs.Rows.{purge-goes}
use Rattle.note_line.proofs.Stays.{stays, of_purged}
use Rattle.note_line.proofs.line.NoteLine.purge_oldest.Goals as goal

pub invariant_of-self : goal.invariant_of-self
invariant_of-self c =
    let l = line_of c.self.inside in
    let kept = stays l _ (purge-goes l c.self.invariant.valid) c.self.invariant in
    rw (c.set_fate.ensures, c.purge_one.ensures.after) (subst KeptLine (of_purged l c.in-Some.purged c.in-Some.ensures.taken) kept)
