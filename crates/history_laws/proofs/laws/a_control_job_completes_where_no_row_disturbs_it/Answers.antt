use Rattle.history_laws.proofs.CompletingByRows.{run-completes_by_rows}
use Rattle.history_laws.proofs.laws.a_control_job_completes_where_no_row_disturbs_it.Goals as goal

pub returns : goal.returns
returns c = run-completes_by_rows
