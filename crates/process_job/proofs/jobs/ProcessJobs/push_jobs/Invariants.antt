use Rattle.std.proofs.Common.{◌≡◌, take}
use Rattle.process_job.specs.Listing.{job_items, joined}
use Rattle.process_job.proofs.jobs.ProcessJobs.push_jobs.Given as goal

abbrev pub invariant-loop-place : goal.invariant-loop-place
invariant-loop-place l = l.out ≡ joined l.initial.out (job_items (take l.place l.self.kept))
