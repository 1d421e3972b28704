use Rattle.std.proofs.Common.{subst}
use Rattle.spool.specs.Spool.{push_loses}
use Rattle.note_line.specs.Line.{spooled}
use Rattle.note_line.specs.Kept.{line_of}
use Rattle.note_line.specs.Kept.{KeptLine}
use Rattle.note_line.proofs.Rows.{spool-goes}
use Rattle.note_line.proofs.Stays.{stays, of_head, lost-told}
use Rattle.note_line.proofs.line.NoteLine.spool_head.Goals as goal

pub invariant_of-self : goal.invariant_of-self
invariant_of-self c =
    let l = line_of c.self.inside in
    let in_kind = rw (← c.self.view_is) at c.requires in
    let kept = stays l _ (spool-goes c.args.around l in_kind c.self.invariant.valid) c.self.invariant in
    let of_it = of_head (spooled c.args.around.overwrites) l c.in-Some.head c.pop_front.new.self.items c.in-Some.ensures.items kept in
    rw (c.spool_note.ensures.told, c.spool_note.ensures.spool) (subst KeptLine (lost-told (push_loses c.args.around.overwrites c.in-Some.head l.spool) _) of_it)
