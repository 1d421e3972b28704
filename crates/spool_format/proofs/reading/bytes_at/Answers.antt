use Rattle.std.proofs.Common.{true, ◌≡◌, ◌⊎◌, ◌≤◌, ◌+◌, ℕ, List, length, take, sym, ◌∙◌, subst, arith}
use Rattle.std.proofs.lemmas.List.{length-take}
use Rattle.std.proofs.lemmas.Result.{err_from_is_err_and}
use Rattle.outside.specs.Counts.{Rose}
use Rattle.spool_format.specs.Unread.{EndsAt}
use Rattle.spool_format.proofs.Given.{told_weaker, rose_earlier}
use Rattle.spool_format.proofs.Refusing.{ends_later}
use Rattle.spool_format.proofs.reading.bytes_at.Goals as goal

pub returns-in_err-buf-clause-fault : goal.returns-in_err-buf-clause-fault
returns-in_err-buf-clause-fault g c =
    let p = err_from_is_err_and c.from_residual.result c.from_residual.ensures.1 in
    let told = told_weaker _ (Rose (g.D.Disk.faults c.args.disk.now) (g.D.Disk.faults c.byte_at.new.disk)) _ (λ place. g.D.Disk.tells c.args.disk.now ≡ true → EndsAt (g.D.Disk.reads c.args.disk.now) c.args.stop c.args.at (length c.args.buf.now) place)
    (rose_earlier (g.D.Disk.faults c.args.disk.now) (g.D.Disk.faults c.loop-index.disk) _ c.loop-index.invariant.faults)
    (λ place ends t.
    let inv = c.loop-index.invariant in
    let piece = take c.loop-index.index c.loop-index.buf in
    let size : length piece ≡ c.loop-index.index = omega (arith, length-take c.loop-index.index c.loop-index.buf, inv.size) in
    let missing = subst (λ (b : List ℕ). EndsAt b c.args.stop (c.args.at + c.loop-index.index) 1 place) (inv.quiet t).same (ends (inv.tells ∙ t)) in
    ends_later (g.D.Disk.reads c.args.disk.now) c.args.stop c.args.at (length c.args.buf.now) place piece (omega (arith, size, inv.size)) (subst (λ (n : ℕ). (n ≡ 0) ⊎ (c.args.at + n ≤ c.args.stop)) (sym size) inv.before) (inv.bytes t)
    (subst (λ (n : ℕ). EndsAt (g.D.Disk.reads c.args.disk.now) c.args.stop (c.args.at + n) 1 place) (sym size) missing))
    c.in_err-buf.field-0.0 c.in_err-buf.ensures.fault in
    rw (p.1, p.2) told
