use Rattle.std.proofs.Common.{◌≡◌, drop}
use Rattle.tool_jobs.specs.Creating.{is_any_missing}
use Rattle.job_requests.proofs.control.is_any_missing.Given as goal

abbrev pub invariant-loop-name : goal.invariant-loop-name
invariant-loop-name l = is_any_missing (drop l.name-index l.names) l.jobs ≡ is_any_missing l.names l.jobs
