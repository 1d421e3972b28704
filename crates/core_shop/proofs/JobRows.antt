-- The rows of the commands on control jobs, which are of table 15, are such as inputs list.
use Rattle.std.proofs.Common.{ℕ, List, Option, Some, None, Result, Ok, Err}
use Rattle.control_job.specs.Jobs.{job_named}
use Rattle.control_job.specs.declared.command.CtlAct.{CtlAct}
use Rattle.control_job.specs.declared.command.CtlAct.TheVariants.{Row, Head}
use Rattle.control_job.specs.declared.job.ControlJob.{ControlJob}
use Rattle.tool_jobs.specs.Jobs.{Jobs}
use Rattle.request_model.specs.Requests.{at_control, control_command_rows}
use Rattle.gem_model.specs.Direct.{Are, IsListed}

at_listed : (row : ℕ) (c : Option ControlJob) → Are IsListed (at_control row c)
at_listed row None = tt
at_listed row (Some c) = (λ other. absurd (cc), tt)

pub control_listed : (job : List ℕ) (a : Result CtlAct ℕ) (w : Jobs) → Are IsListed (control_command_rows job a w)
control_listed job (Ok (Row row)) w = at_listed row (job_named job w.control.jobs)
control_listed job (Ok Head) w = tt
control_listed job (Err code) w = tt
