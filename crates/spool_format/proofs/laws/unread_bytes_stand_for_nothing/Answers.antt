use Rattle.spool_format.proofs.Unreading.{unread_is_nothing}
use Rattle.spool_format.proofs.laws.unread_bytes_stand_for_nothing.Goals as goal

pub returns : goal.returns
returns c = unread_is_nothing
