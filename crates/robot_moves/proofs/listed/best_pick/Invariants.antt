use Rattle.std.proofs.Common.{◌≡◌, drop, filter}
use Rattle.robot_moves.specs.Moves.{is_useful, first_among, best_pick}
use Rattle.robot_moves.proofs.Joined.{joined}
use Rattle.robot_moves.proofs.listed.best_pick.Given as goal

abbrev pub invariant-loop-v : goal.invariant-loop-v
invariant-loop-v l = joined l.best (first_among (filter (is_useful l.places l.modules) (drop l.v-index l.places))) ≡ best_pick l.places l.modules
