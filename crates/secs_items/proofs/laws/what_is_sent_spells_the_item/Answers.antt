use Rattle.std.proofs.Common.{arith}
use Rattle.secs_items.proofs.PlainSpelling.{plain_spells}
use Rattle.secs_items.proofs.laws.what_is_sent_spells_the_item.Goals as goal

pub returns : goal.returns
returns c d fit sendable = plain_spells d 0 (omega (arith, sendable.depth)) fit sendable.bodies
