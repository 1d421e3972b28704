use Rattle.std.proofs.Common.{true, ◌≡◌, ◌⊎◌, inl}
use Rattle.std.proofs.lemmas.Result.{err_from_is_err_and}
use Rattle.outside.specs.Counts.{Rose}
use Rattle.spool_format.specs.Unread.{EndsAt, IsOther, IsKindByte}
use Rattle.spool_format.proofs.Given.{told_weaker}
use Rattle.spool_format.proofs.reading.kind_at.Goals as goal

pub returns-in_err-byte-clause-fault : goal.returns-in_err-byte-clause-fault
returns-in_err-byte-clause-fault g c =
    let p = err_from_is_err_and c.from_residual.result c.from_residual.ensures.1 in
    let told = told_weaker _ (Rose (g.D.Disk.faults c.args.disk.now) (g.D.Disk.faults c.byte_at.new.disk)) _ (λ place. g.D.Disk.tells c.args.disk.now ≡ true → EndsAt (g.D.Disk.reads c.args.disk.now) c.args.stop c.args.at 1 place ⊎ IsOther IsKindByte (g.D.Disk.reads c.args.disk.now) c.args.stop c.args.at place)
    (λ rose. rose)
    (λ place ends t. inl (ends t))
    c.in_err-byte.field-0.0 c.in_err-byte.ensures.fault in
    rw (p.1, p.2) told
