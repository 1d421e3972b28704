use Rattle.process_job.specs.Jobs.{job_numbered as process_numbered}
use Rattle.control_job.specs.Jobs.{job_numbered as control_numbered}
use Rattle.tool_jobs.proofs.Falls.{process_ready_starts, control_ready_starts}
use Rattle.tool_jobs.proofs.laws.a_ready_row_of_a_job_starts.Goals as goal

pub returns-clause-process : goal.returns-clause-process
returns-clause-process c = λ w number row sight e. process_ready_starts (process_numbered number w.process.kept) row sight w e

pub returns-clause-control : goal.returns-clause-control
returns-clause-control c = λ w number row here e. control_ready_starts (control_numbered number w.control.jobs) row here w e
