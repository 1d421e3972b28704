use Rattle.lot_laws.proofs.InJobs.{opening-in_jobs, process-in_jobs}
use Rattle.lot_laws.proofs.laws.each_substrate_is_in_a_job_that_is_kept.Goals as goal

pub returns-clause-opening : goal.returns-clause-opening
returns-clause-opening c = opening-in_jobs

pub returns-clause-process : goal.returns-clause-process
returns-clause-process c = λ f n row j kept h known. process-in_jobs f kept h n row j known
