use Rattle.tool_jobs.proofs.Falls.{process_falls, control_falls}
use Rattle.tool_jobs.proofs.laws.the_jobs_come_to_rest.Goals as goal

pub returns-clause-process : goal.returns-clause-process
returns-clause-process c = process_falls

pub returns-clause-control : goal.returns-clause-control
returns-clause-control c = control_falls
