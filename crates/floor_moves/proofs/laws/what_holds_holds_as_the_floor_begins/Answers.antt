use Rattle.floor_moves.proofs.Carrying.{opening-valid}
use Rattle.floor_moves.proofs.laws.what_holds_holds_as_the_floor_begins.Goals as goal

pub returns : goal.returns
returns c = opening-valid
