use Rattle.floor_model.proofs.Keeping.{row-keeps}
use Rattle.floor_model.proofs.laws.the_floor_stays_valid.Goals as goal

pub returns : goal.returns
returns c = row-keeps
