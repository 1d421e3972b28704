use Rattle.picture_laws.proofs.Carried.{moving_agrees}
use Rattle.picture_laws.proofs.laws.what_moves_moves_by_numbers.Goals as goal

pub returns : goal.returns
returns c = moving_agrees
