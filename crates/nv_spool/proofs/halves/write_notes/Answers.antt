use Rattle.std.proofs.Common.{◌≡◌, ◌+◌, ℕ, List, length, take, sym, ◌∙◌, ap, subst, arith, length-append}
use Rattle.nv_spool.proofs.Pushes.{push_size, pushes_more, pushes_room, fits_there}
use Rattle.nv_spool.specs.Writing.{push_of, pushes}
use Rattle.outside.specs.Disk.{WrittenAt}
use Rattle.spool_format.proofs.Moments.{writes_then}
use Rattle.spool_format.proofs.Pieces.{written_twice}
use Rattle.spool_format.specs.Format.{record_bytes, spelled}
use Rattle.nv_spool.proofs.halves.write_notes.Goals as goal

pub returns-in_err-write_note-clause-only : goal.returns-in_err-write_note-clause-only
returns-in_err-write_note-clause-only g c t =
    let inv = c.loop-index.invariant in
    let notes = c.args.queue.now.notes in
    let note = c.note_at-note.result.now in
    writes_then g.D.Disk.leaves g.D.Disk.moment g.D.Disk.left_since c.args.at (length (spelled (pushes notes))) c.args.disk.now c.loop-index.disk c.write_note.new.disk (c.args.at + c.loop-index.end) (length (record_bytes (push_of note)))
    (omega arith) (omega (arith, inv.end, pushes_room notes c.loop-index.index note c.note_at-note.ensures)) (inv.only t) (c.write_note.ensures.only (inv.tells ∙ t))

pub loop-index-preserved : goal.loop-index-preserved
loop-index-preserved g c =
    let inv = c.loop-index.invariant in
    let notes = c.args.queue.now.notes in
    let note = c.note_at-note.result.now in
    let i = c.loop-index.index in
    let more = pushes_more notes i note c.note_at-note.ensures in
    let text = c.as_slice.ensures in
    let size = push_size note in
    let fits = fits_there notes i note c.note_at-note.ensures c.requires.texts in
    record {
      end = omega (arith, inv.end, ap length more, length-append (spelled (pushes (take i notes))) (record_bytes (push_of note)), size, ap length text);
      small = omega (arith, inv.small, fits.text, ap length text);
      most = inv.most;
      stop = inv.stop;
      written = λ t.
          let here : c.args.at + c.loop-index.end ≡ c.args.at + length (spelled (pushes (take i notes))) = ap (λ (n : ℕ). c.args.at + n) inv.end in
          subst (λ (l : List ℕ). WrittenAt c.args.at l (g.D.Disk.reads c.args.disk.now) (g.D.Disk.reads c.write_note.new.disk)) (sym more)
          (written_twice c.args.at (c.args.at + c.loop-index.end) (spelled (pushes (take i notes))) (record_bytes (push_of note)) _ _ _ here (inv.written t) (c.in_ok-write_note.ensures.written (inv.tells ∙ t)));
      only = λ t. writes_then g.D.Disk.leaves g.D.Disk.moment g.D.Disk.left_since c.args.at (length (spelled (pushes notes))) c.args.disk.now c.loop-index.disk c.write_note.new.disk (c.args.at + c.loop-index.end) (length (record_bytes (push_of note))) (omega arith) (omega (arith, inv.end, pushes_room notes i note c.note_at-note.ensures)) (inv.only t) (c.write_note.ensures.only (inv.tells ∙ t));
      tells = c.write_note.ensures.tells ∙ inv.tells;
      faults = omega (arith, inv.faults, c.write_note.ensures.faults_stay);
    }
