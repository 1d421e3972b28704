use Rattle.std.proofs.Common.{◌≡◌, length}
use Rattle.request_model.specs.Attributes.{is_each_once}
use Rattle.job_requests.proofs.attributes.is_each_once.Given as goal

abbrev pub invariant-loop-left : goal.invariant-loop-left
invariant-loop-left l = is_each_once l.left ≡ is_each_once l.attributes

abbrev pub decreases-loop-left : goal.decreases-loop-left
decreases-loop-left l = length l.left
