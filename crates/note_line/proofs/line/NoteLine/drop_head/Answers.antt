use Rattle.note_line.specs.Line.{fated}
use Rattle.note_line.specs.declared.fate.Fate.TheVariants.{Dropped}
use Rattle.note_line.specs.declared.fate.DropCause.TheVariants.{NoSpool}
use Rattle.note_line.specs.Kept.{line_of}
use Rattle.note_line.proofs.Rows.{drop-goes}
use Rattle.note_line.proofs.Stays.{stays, of_head}
use Rattle.note_line.proofs.line.NoteLine.drop_head.Goals as goal

pub invariant_of-self : goal.invariant_of-self
invariant_of-self c =
    let l = line_of c.self.inside in
    let kept = stays l _ (drop-goes l c.self.invariant.valid) c.self.invariant in
    rw c.set_fate.ensures (of_head (fated (Dropped NoSpool)) l c.in-Some.head c.pop_front.new.self.items c.in-Some.ensures.items kept)
