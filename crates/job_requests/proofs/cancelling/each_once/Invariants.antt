use Rattle.std.proofs.Common.{◌≡◌, take}
use Rattle.request_model.specs.Requests.{each_once}
use Rattle.job_requests.proofs.cancelling.each_once.Given as goal

abbrev pub invariant-loop-name : goal.invariant-loop-name
invariant-loop-name l = l.once ≡ each_once (take l.name-index l.names)
