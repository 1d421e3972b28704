use Rattle.msgs_gem.proofs.Ignoring.{same_reading}
use Rattle.msgs_gem.proofs.ignored.an_ignored_text_makes_no_difference.Goals as goal

pub returns : goal.returns
returns c = same_reading
