use Rattle.queue_laws.proofs.Steering.{started_queued, begin-steers}
use Rattle.queue_laws.proofs.laws.a_control_job_starts.Goals as goal

pub returns-clause-queued : goal.returns-clause-queued
returns-clause-queued c = λ number w row n here d j t s e starts r f. started_queued number w t s row here d e starts r n j f

pub returns-clause-steers : goal.returns-clause-steers
returns-clause-steers c = λ number w row here d t s e starts r auto. begin-steers number w t s row here d e starts r auto
