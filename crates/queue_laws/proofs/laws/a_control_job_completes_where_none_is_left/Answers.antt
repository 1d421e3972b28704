use Rattle.queue_laws.proofs.Steering.{process-ready, control-ready, completes}
use Rattle.queue_laws.proofs.laws.a_control_job_completes_where_none_is_left.Goals as goal

pub returns-clause-process : goal.returns-clause-process
returns-clause-process c = λ number w row n sight j t s v e ready. (process-ready number w t s v row n sight j e ready).0

pub returns-clause-process_rows : goal.returns-clause-process_rows
returns-clause-process_rows c = λ number w row n sight j t s v e ready. (process-ready number w t s v row n sight j e ready).1

pub returns-clause-control : goal.returns-clause-control
returns-clause-control c = λ number w row m here d t s v e ready. control-ready number w t s v row m here d e ready

pub returns-clause-completes : goal.returns-clause-completes
returns-clause-completes c = λ number w here t s v. completes number w t s v here
