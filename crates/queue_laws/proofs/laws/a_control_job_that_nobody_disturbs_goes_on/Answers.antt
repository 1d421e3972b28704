use Rattle.queue_laws.proofs.Steering.{process-steers, control-steers, created-steers, added-steers, left_kept}
use Rattle.queue_laws.proofs.laws.a_control_job_that_nobody_disturbs_goes_on.Goals as goal

pub returns-clause-process : goal.returns-clause-process
returns-clause-process c = λ number w row n sight j t s v e starts calm. process-steers number w t s v row n sight j e starts calm

pub returns-clause-control : goal.returns-clause-control
returns-clause-control c = λ number w row m here d t s v e starts calm on. control-steers number w t s v row m here d e starts calm on

pub returns-clause-created : goal.returns-clause-created
returns-clause-created c = λ number w spec t s v e. created-steers number w t s v spec e

pub returns-clause-added : goal.returns-clause-added
returns-clause-added c = λ number w name named auto t s v e. added-steers number w t s v name named auto e

pub returns-clause-head : goal.returns-clause-head
returns-clause-head c = λ number w name v. record { executes = v.executes; alone = v.alone; auto = v.auto; going = v.going; started = v.started }

pub returns-clause-left : goal.returns-clause-left
returns-clause-left c = λ number w job t s v left. left_kept number w t s v job left
