use Rattle.std.proofs.Common.{sym, subst, arith}
use Rattle.std.proofs.lemmas.Nat.{be_bytes_4}
use Rattle.outside.specs.Disk.{HasAt}
use Rattle.spool_format.proofs.Fields.{bytes_fit}
use Rattle.spool_format.proofs.reading.u32_at.Goals as goal

pub returns-clause-number : goal.returns-clause-number
returns-clause-number g c t =
    subst (HasAt (g.D.Disk.reads c.args.disk.now) c.args.at) (sym (be_bytes_4 c.bytes_at.new.buf c.from_be_bytes.result (omega arith) (λ i. bytes_fit c.bytes_at.new.buf i c.in_ok-bytes_at.ensures.fit) c.from_be_bytes.ensures)) (c.in_ok-bytes_at.ensures.bytes t)
