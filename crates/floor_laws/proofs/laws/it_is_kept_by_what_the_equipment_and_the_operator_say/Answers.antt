use Rattle.floor_laws.proofs.EndProcess.{fetched_sound}
use Rattle.floor_laws.proofs.FloorInputs.{done_sound, failed_sound, down_sound, lost_rows_sound}
use Rattle.floor_laws.proofs.laws.it_is_kept_by_what_the_equipment_and_the_operator_say.Goals as goal

pub returns-clause-fetched : goal.returns-clause-fetched
returns-clause-fetched c = fetched_sound

pub returns-clause-done : goal.returns-clause-done
returns-clause-done c = done_sound

pub returns-clause-failed : goal.returns-clause-failed
returns-clause-failed c = failed_sound

pub returns-clause-down : goal.returns-clause-down
returns-clause-down c = down_sound

pub returns-clause-lost : goal.returns-clause-lost
returns-clause-lost c = lost_rows_sound
