use Rattle.std.proofs.Common.{◌≡◌, drop}
use Rattle.tool_jobs.specs.Creating.{is_any_missing}
use Rattle.tool_jobs.proofs.jobs.Jobs.is_any_missing.Given as goal

abbrev pub invariant-loop-job : goal.invariant-loop-job
invariant-loop-job l = is_any_missing (drop l.job-index l.jobs) l.fn.self ≡ is_any_missing l.jobs l.fn.self
