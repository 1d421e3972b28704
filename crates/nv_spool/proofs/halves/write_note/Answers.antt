use Rattle.std.proofs.Common.{◌+◌, ◌∷◌, ℕ, List, length, refl, ◌∙◌, ap, subst, arith}
use Rattle.std.proofs.lemmas.Result.{on_ok_weaker}
use Rattle.nv_spool.proofs.Pushes.{push_size, push_split}
use Rattle.nv_spool.specs.Writing.{push_of}
use Rattle.outside.specs.Disk.{WrittenAt}
use Rattle.spool_format.proofs.Moments.{writes_none, writes_more}
use Rattle.spool_format.proofs.Pieces.{written_twice}
use Rattle.spool_format.specs.Format.{record_bytes, note_head}
use Rattle.nv_spool.proofs.halves.write_note.Goals as goal

pub returns-in_err-write_at-clause-only : goal.returns-in_err-write_at-clause-only
returns-in_err-write_at-clause-only g c t =
    let n = length (record_bytes (push_of c.args.note.now)) in
    let start = writes_none g.D.Disk.leaves g.D.Disk.moment g.D.Disk.left_since c.args.at n c.args.disk.now (λ f left. g.met.D.Disk.only_now c.args.disk.now f t left) in
    writes_more g.D.Disk.leaves g.D.Disk.moment g.D.Disk.left_since c.args.at n c.args.disk.now c.args.disk.now c.write_at.new.self c.args.at (length c.push_front.result) (omega arith) (omega (arith, push_size c.args.note.now, ap length c.push_front.ensures)) start (c.write_at.ensures.leaves t) (c.write_at.ensures.time t)

pub returns-clause-written : goal.returns-clause-written
returns-clause-written g c =
    on_ok_weaker c.write_at-2.result
    (λ second t.
    let note = c.args.note.now in
    let first = subst (λ (l : List ℕ). WrittenAt c.args.at l (g.D.Disk.reads c.args.disk.now) (g.D.Disk.reads c.write_at.new.self)) c.push_front.ensures (c.in_ok-write_at.ensures.written t) in
    let text = subst (λ (l : List ℕ). WrittenAt (c.args.at + 20) l (g.D.Disk.reads c.write_at.new.self) (g.D.Disk.reads c.write_at-2.new.self)) c.as_slice.ensures (second ((c.write_at.ensures.tells ∙ t))) in
    subst (λ (l : List ℕ). WrittenAt c.args.at l (g.D.Disk.reads c.args.disk.now) (g.D.Disk.reads c.write_at-2.new.self)) (push_split note)
    (written_twice c.args.at (c.args.at + 20) (1 ∷ 1 ∷ 0 ∷ note_head note) note.text _ _ _ refl first text))
    c.write_at-2.ensures.written

pub returns-clause-only : goal.returns-clause-only
returns-clause-only g c t =
    let n = length (record_bytes (push_of c.args.note.now)) in
    let so_far = writes_more g.D.Disk.leaves g.D.Disk.moment g.D.Disk.left_since c.args.at n c.args.disk.now c.args.disk.now c.write_at.new.self c.args.at (length c.push_front.result) (omega arith) (omega (arith, push_size c.args.note.now, ap length c.push_front.ensures))
    (writes_none g.D.Disk.leaves g.D.Disk.moment g.D.Disk.left_since c.args.at n c.args.disk.now (λ f left. g.met.D.Disk.only_now c.args.disk.now f t left)) (c.write_at.ensures.leaves t) (c.write_at.ensures.time t) in
    let t1 = (c.write_at.ensures.tells ∙ t) in
    writes_more g.D.Disk.leaves g.D.Disk.moment g.D.Disk.left_since c.args.at n c.args.disk.now c.write_at.new.self c.write_at-2.new.self (c.args.at + 20) (length c.as_slice.result.now) (omega arith)
    (omega (arith, push_size c.args.note.now, ap length c.as_slice.ensures)) so_far (c.write_at-2.ensures.leaves t1) (c.write_at-2.ensures.time t1)
