use Rattle.std.proofs.Common.{arith}
use Rattle.civil_time.proofs.EpochDays.{epoch_of}
use Rattle.civil_time.proofs.civil.first_date.Goals as goal

pub returns : goal.returns
returns c =
    let e = c.date.ensures in
    rw c.to_plain.ensures (epoch_of c.date.result 2000 1 1 e.0 e.1 e.2 (omega arith))
