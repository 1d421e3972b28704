use Rattle.std.proofs.Common.{◌∙◌, ap, is_some}
use Rattle.substrate.proofs.Found.{some_shown}
use Rattle.substrate.proofs.Standing.{at_taken}
use Rattle.substrate.proofs.places.Places.is_taken.Goals as goal

pub returns : goal.returns
returns c = c.is_some.ensures ∙ some_shown c.name_at.result ∙ ap is_some c.name_at.ensures.value ∙ at_taken c.args.loc c.args.self.now.held
