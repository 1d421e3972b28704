use Rattle.queue_laws.proofs.Starting.{none-started, process-started, control-started, created-started, added-started, headed-started}
use Rattle.queue_laws.proofs.laws.each_process_job_that_was_started_is_left_in_a_control_job_at_work.Goals as goal

pub returns-clause-opening : goal.returns-clause-opening
returns-clause-opening c = none-started

pub returns-clause-process : goal.returns-clause-process
returns-clause-process c = λ w row n sight t s e. process-started w t s row n sight e

pub returns-clause-control : goal.returns-clause-control
returns-clause-control c = λ w row n here t s e. control-started w t s row n here e

pub returns-clause-created : goal.returns-clause-created
returns-clause-created c = λ w spec t s. created-started w t s spec

pub returns-clause-added : goal.returns-clause-added
returns-clause-added c = λ w name named auto t s e. added-started w t s name named auto e

pub returns-clause-head : goal.returns-clause-head
returns-clause-head c = λ w name t s. headed-started w t s name
