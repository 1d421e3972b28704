use Rattle.std.proofs.Common.{length}
use Rattle.control_job.proofs.jobs.+first_waiting.Given as goal

abbrev pub decreases-first_waiting : goal.decreases-first_waiting
decreases-first_waiting l = length l.order.now
