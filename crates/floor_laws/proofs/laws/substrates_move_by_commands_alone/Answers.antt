use Rattle.floor_laws.proofs.FloorPlaces.{done_places, closing_places, lost_listed}
use Rattle.floor_laws.proofs.laws.substrates_move_by_commands_alone.Goals as goal

pub returns-clause-done : goal.returns-clause-done
returns-clause-done c = done_places

pub returns-clause-closed : goal.returns-clause-closed
returns-clause-closed c = closing_places

pub returns-clause-lost : goal.returns-clause-lost
returns-clause-lost c = λ sub f sound. lost_listed sub f sound
