use Rattle.std.proofs.Common.{◌≡◌, drop}
use Rattle.request_model.specs.Requests.{names_error}
use Rattle.job_requests.proofs.cancelling.names_error.Given as goal

abbrev pub invariant-loop-name : goal.invariant-loop-name
invariant-loop-name l = names_error (drop l.name-index l.names) l.jobs ≡ names_error l.names l.jobs
