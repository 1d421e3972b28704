use Rattle.robot_moves.proofs.Giving.{nothing_moves}
use Rattle.robot_moves.proofs.laws.nothing_moves_where_all_rest.Goals as goal

pub returns : goal.returns
returns c = nothing_moves
