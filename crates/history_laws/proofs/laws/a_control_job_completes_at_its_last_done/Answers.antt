use Rattle.history_laws.proofs.Completing.{run-completes}
use Rattle.history_laws.proofs.laws.a_control_job_completes_at_its_last_done.Goals as goal

pub returns : goal.returns
returns c = run-completes
