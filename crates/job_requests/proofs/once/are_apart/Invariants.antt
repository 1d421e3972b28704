use Rattle.std.proofs.Common.{◌≡◌, length}
use Rattle.control_job.specs.Names.{is_each_once}
use Rattle.job_requests.proofs.once.are_apart.Given as goal

abbrev pub invariant-loop-left : goal.invariant-loop-left
invariant-loop-left l = is_each_once l.left ≡ is_each_once l.names

abbrev pub decreases-loop-left : goal.decreases-loop-left
decreases-loop-left l = length l.left
