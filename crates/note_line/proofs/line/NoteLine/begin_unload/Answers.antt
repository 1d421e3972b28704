use Rattle.note_line.specs.Kept.{line_of}
use Rattle.note_line.proofs.Rows.{begun-goes}
use Rattle.note_line.proofs.Stays.{stays}
use Rattle.note_line.proofs.line.NoteLine.begin_unload.Goals as goal

pub invariant_of-self : goal.invariant_of-self
invariant_of-self c =
    let l = line_of c.self.inside in
    rw c.begin_unload.ensures.after (stays l _ (begun-goes c.args.rsdc c.args.around l c.self.invariant.valid) c.self.invariant)
