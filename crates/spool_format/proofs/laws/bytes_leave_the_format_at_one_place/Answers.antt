use Rattle.spool_format.proofs.OnePlace.{one_place}
use Rattle.spool_format.proofs.laws.bytes_leave_the_format_at_one_place.Goals as goal

pub returns : goal.returns
returns c = one_place
