use Rattle.secs_items.proofs.PlainSpelling.{spelled_range}
use Rattle.secs_items.proofs.Sends.{sendable}
use Rattle.secs_items.proofs.laws.what_is_spelled_can_be_sent.Goals as goal

pub returns : goal.returns
returns c d bytes spells = (sendable d bytes spells, spelled_range d 0 bytes spells)
