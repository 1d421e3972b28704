use Rattle.history_laws.proofs.CalmDones.{done_calm}
use Rattle.history_laws.proofs.laws.a_done_disturbs_no_control_job.Goals as goal

pub returns-clause-calm : goal.returns-clause-calm
returns-clause-calm c = done_calm
