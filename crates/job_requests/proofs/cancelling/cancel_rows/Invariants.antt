use Rattle.std.proofs.Common.{◌≡◌, take}
use Rattle.request_model.specs.Requests.{cancel_rows}
use Rattle.job_requests.proofs.cancelling.cancel_rows.Given as goal

abbrev pub invariant-loop-name : goal.invariant-loop-name
invariant-loop-name l = l.rows ≡ cancel_rows (take l.name-index l.names) l.jobs
