use Rattle.note_line.specs.Kept.{line_of}
use Rattle.note_line.proofs.Rows.{restated-goes}
use Rattle.note_line.proofs.Stays.{stays}
use Rattle.note_line.proofs.line.NoteLine.restate.Goals as goal

pub invariant_of-self : goal.invariant_of-self
invariant_of-self c =
    let l = line_of c.self.inside in
    rw c.fire.ensures.after (stays l _ (restated-goes c.args.row l c.self.invariant.valid) c.self.invariant)
