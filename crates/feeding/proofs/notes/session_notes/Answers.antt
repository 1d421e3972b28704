use Rattle.std.proofs.Common.{◌≡◌, ◌+◌, suc, List, [], ◌∷◌, length, length-append, arith}
use Rattle.line_feeding.specs.declared.ended.SessionNote.{SessionNote}
use Rattle.line_feeding.specs.Notes.{note_of}
use Rattle.line_feeding.proofs.Noting.{all_known}
use Rattle.feeding.proofs.notes.session_notes.Goals as goal

pub loop-session-preserved : goal.loop-session-preserved
loop-session-preserved g c =
    let notes : List SessionNote = c.loop-session.notes.items in
    let next : c.loop-session.session + 1 ≡ suc (length notes) = omega (arith, c.loop-session.invariant.count) in
    record {
      count = rw c.in_ok-push.ensures.items (omega (arith, length-append notes (c.session_note.result ∷ []), c.loop-session.invariant.count));
      each = λ read are. rw c.in_ok-push.ensures.items
          (all_known (λ k. note_of (g.C.Recorder.view c.args.core.now).config (g.C.Recorder.view c.args.core.now).history read (suc k)) notes c.session_note.result (c.loop-session.invariant.each read are) (rw next at c.session_note.ensures read are));
    }
