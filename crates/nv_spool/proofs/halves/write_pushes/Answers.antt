use Rattle.std.proofs.Common.{◌+◌, ◌∷◌, [], ◌++◌, ℕ, length, ◌∙◌, ap, arith, length-append}
use Rattle.nv_spool.specs.Writing.{pushes}
use Rattle.spool_format.proofs.Moments.{writes_none, writes_more, writes_then}
use Rattle.spool_format.proofs.Pieces.{written_twice}
use Rattle.spool_format.specs.Format.{spelled}
use Rattle.nv_spool.proofs.halves.write_pushes.Goals as goal

pub overflow_add-at : goal.overflow_add-at
overflow_add-at g c = omega (arith, c.in_ok-end.ensures.small, c.requires.few)

pub returns-in_err-write_at-clause-only : goal.returns-in_err-write_at-clause-only
returns-in_err-write_at-clause-only g c t =
    let all = spelled (pushes c.args.queue.now.notes) in
    let total = length (all ++ 0 ∷ []) in
    let size = length-append all (0 ∷ []) in
    let notes = writes_then g.D.Disk.leaves g.D.Disk.moment g.D.Disk.left_since c.args.at total c.args.disk.now c.args.disk.now c.write_notes.new.disk c.args.at (length all) (omega arith) (omega arith)
    (writes_none g.D.Disk.leaves g.D.Disk.moment g.D.Disk.left_since c.args.at total c.args.disk.now (λ f left. g.met.D.Disk.only_now c.args.disk.now f t left)) (c.write_notes.ensures.only t) in
    let t1 = (c.write_notes.ensures.tells ∙ t) in
    writes_more g.D.Disk.leaves g.D.Disk.moment g.D.Disk.left_since c.args.at total c.args.disk.now c.write_notes.new.disk c.write_at.new.self (c.args.at + c.in_ok-end.end) 1 (omega arith)
    (omega (arith, c.in_ok-end.ensures.end)) notes (c.write_at.ensures.leaves t1) (c.write_at.ensures.time t1)

pub returns-clause-written : goal.returns-clause-written
returns-clause-written g c t =
    let all = spelled (pushes c.args.queue.now.notes) in
    written_twice c.args.at (c.args.at + c.in_ok-end.end) all (0 ∷ []) _ _ _ (ap (λ (n : ℕ). c.args.at + n) c.in_ok-end.ensures.end) (c.in_ok-end.ensures.written t) (c.in_ok-write_at.ensures.written ((c.write_notes.ensures.tells ∙ t)))

pub returns-clause-only : goal.returns-clause-only
returns-clause-only g c t =
    let all = spelled (pushes c.args.queue.now.notes) in
    let total = length (all ++ 0 ∷ []) in
    let size = length-append all (0 ∷ []) in
    let notes = writes_then g.D.Disk.leaves g.D.Disk.moment g.D.Disk.left_since c.args.at total c.args.disk.now c.args.disk.now c.write_notes.new.disk c.args.at (length all) (omega arith) (omega arith)
    (writes_none g.D.Disk.leaves g.D.Disk.moment g.D.Disk.left_since c.args.at total c.args.disk.now (λ f left. g.met.D.Disk.only_now c.args.disk.now f t left)) (c.write_notes.ensures.only t) in
    let t1 = (c.write_notes.ensures.tells ∙ t) in
    writes_more g.D.Disk.leaves g.D.Disk.moment g.D.Disk.left_since c.args.at total c.args.disk.now c.write_notes.new.disk c.write_at.new.self (c.args.at + c.in_ok-end.end) 1 (omega arith)
    (omega (arith, c.in_ok-end.ensures.end)) notes (c.write_at.ensures.leaves t1) (c.write_at.ensures.time t1)
