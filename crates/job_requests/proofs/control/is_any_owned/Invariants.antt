use Rattle.std.proofs.Common.{◌≡◌, drop}
use Rattle.tool_jobs.specs.Creating.{is_any_owned}
use Rattle.job_requests.proofs.control.is_any_owned.Given as goal

abbrev pub invariant-loop-name : goal.invariant-loop-name
invariant-loop-name l = is_any_owned (drop l.name-index l.names) l.jobs ≡ is_any_owned l.names l.jobs
