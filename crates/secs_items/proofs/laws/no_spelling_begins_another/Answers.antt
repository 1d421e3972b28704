use Rattle.secs_items.proofs.PlainSpelling.{one_spelling}
use Rattle.secs_items.proofs.laws.no_spelling_begins_another.Goals as goal

pub returns : goal.returns
returns c = one_spelling
