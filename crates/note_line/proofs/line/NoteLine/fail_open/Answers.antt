use Rattle.std.proofs.Common.{subst, sym, ◌∙◌}
use Rattle.note_line.specs.Line.{restated}
use Rattle.note_line.specs.Kept.{KeptLine, line_of}
use Rattle.note_line.proofs.Rows.{fail-goes}
use Rattle.note_line.proofs.Stays.{stays, fails_to_spool, fails_dropped, fails_none}
use Rattle.note_line.proofs.line.NoteLine.fail_open.Goals.{in-Some+then-has, in-Some+else-has, in_default}
use Rattle.note_line.proofs.line.NoteLine.fail_open.Goals as goal

pub invariant_of-self : goal.invariant_of-self
invariant_of-self c =
    let l = line_of c.self.inside in
    let kept = stays l _ (fail-goes c.args.around l c.self.invariant.valid) c.self.invariant in
    rw c.fire.ensures.after (elim c.match-take.branch [
      | in-Some+then-has w ↦ rw (w.self-inside-is, w.return_note.ensures.told, w.return_note.ensures.spool, c.take.ensures.after) (subst (λ x. KeptLine (restated 14 x)) (fails_to_spool c.args.around l w.in-Some.failed (sym w.in-Some.ensures.value) (sym w.has.ensures ∙ w.if-has.true)) kept)
      | in-Some+else-has w ↦ rw (w.self-inside-is, w.set_fate.ensures, c.take.ensures.after) (subst (λ x. KeptLine (restated 14 x)) (fails_dropped c.args.around l w.in-Some.failed (sym w.in-Some.ensures.value) (sym w.has.ensures ∙ w.if-has.false)) kept)
      | in_default w ↦ rw (w.self-inside-is, c.take.ensures.after) (subst (λ x. KeptLine (restated 14 x)) (fails_none c.args.around l (sym c.take.ensures.value ∙ w.in_default.is)) kept)
    ])
