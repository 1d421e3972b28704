use Rattle.std.proofs.Common.{◌≡◌, drop, find}
use Rattle.control_job.specs.Jobs.{has_name, job_named}
use Rattle.job_requests.proofs.names.control_id.Given as goal

abbrev pub invariant-loop-place : goal.invariant-loop-place
invariant-loop-place l = find (has_name l.name) (drop l.place l.control.jobs) ≡ job_named l.name l.control.jobs
