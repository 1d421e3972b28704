use Rattle.configuration.proofs.One.{one_configuration}
use Rattle.configuration.proofs.laws.a_text_says_one_configuration.Goals as goal

pub returns : goal.returns
returns c = one_configuration
