use Rattle.std.proofs.Common.{◌≡◌, drop}
use Rattle.tool_jobs.specs.Creating.{is_any_owned}
use Rattle.tool_jobs.proofs.jobs.Jobs.is_any_owned.Given as goal

abbrev pub invariant-loop-job : goal.invariant-loop-job
invariant-loop-job l = is_any_owned (drop l.job-index l.jobs) l.fn.self ≡ is_any_owned l.jobs l.fn.self
