use Rattle.floor_laws.proofs.FloorPlaces.{done_shuts, failed_shuts, down_shuts}
use Rattle.floor_laws.proofs.laws.a_command_that_ends_is_open_nowhere.Goals as goal

pub returns-clause-done : goal.returns-clause-done
returns-clause-done c = done_shuts

pub returns-clause-failed : goal.returns-clause-failed
returns-clause-failed c = failed_shuts

pub returns-clause-down : goal.returns-clause-down
returns-clause-down c = down_shuts
