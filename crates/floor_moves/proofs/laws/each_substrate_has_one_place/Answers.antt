use Rattle.floor_moves.proofs.Promised.{one_place}
use Rattle.floor_moves.proofs.laws.each_substrate_has_one_place.Goals as goal

pub returns : goal.returns
returns c = one_place
