use Rattle.floor_laws.proofs.JobCreated.{control_changes_sound, created_sound}
use Rattle.floor_laws.proofs.laws.it_is_kept_as_jobs_change.Goals as goal

pub returns-clause-created : goal.returns-clause-created
returns-clause-created c = created_sound

pub returns-clause-control : goal.returns-clause-control
returns-clause-control c = control_changes_sound
