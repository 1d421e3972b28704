use Rattle.std.proofs.Common.{◌≡◌, length}
use Rattle.job_requests.specs.Neighbours.{are_neighbours_apart}
use Rattle.job_requests.proofs.once.are_neighbours_apart.Given as goal

abbrev pub invariant-loop-left : goal.invariant-loop-left
invariant-loop-left l = are_neighbours_apart l.left ≡ are_neighbours_apart l.names

abbrev pub decreases-loop-left : goal.decreases-loop-left
decreases-loop-left l = length l.left
