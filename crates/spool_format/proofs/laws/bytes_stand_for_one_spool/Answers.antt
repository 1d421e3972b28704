use Rattle.spool_format.proofs.Alone.{one_spool}
use Rattle.spool_format.proofs.laws.bytes_stand_for_one_spool.Goals as goal

pub returns : goal.returns
returns c = one_spool
