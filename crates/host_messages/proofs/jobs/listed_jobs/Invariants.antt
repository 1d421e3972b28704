use Rattle.std.proofs.Common.{◌≡◌, take, map}
use Rattle.gem_model.specs.JobMessages.{listed_job}
use Rattle.host_messages.proofs.jobs.listed_jobs.Given as goal

abbrev pub invariant-loop-place : goal.invariant-loop-place
invariant-loop-place l = l.jobs ≡ map listed_job (take l.place l.process.kept)
