use Rattle.std.proofs.Common.{◌≡◌, take, map, filter}
use Rattle.request_model.specs.Requests.{is_queued}
use Rattle.job_requests.proofs.cancelling.queued.Given as goal

abbrev pub invariant-loop-place : goal.invariant-loop-place
invariant-loop-place l = l.names ≡ map (λ j. j.id) (filter is_queued (take l.place l.process.kept))
