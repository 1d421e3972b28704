use Rattle.robot_moves.proofs.Best.{best_is, none_is}
use Rattle.robot_moves.proofs.laws.the_pick_is_the_best.Goals as goal

pub returns-clause-best : goal.returns-clause-best
returns-clause-best c = best_is

pub returns-clause-none : goal.returns-clause-none
returns-clause-none c = none_is
