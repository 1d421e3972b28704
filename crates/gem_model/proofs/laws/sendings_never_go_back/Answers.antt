use Rattle.gem_model.proofs.Sendings.{run-sendings}
use Rattle.gem_model.proofs.laws.sendings_never_go_back.Goals as goal

pub returns : goal.returns
returns c = run-sendings
