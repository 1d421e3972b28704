use Rattle.floor_model.proofs.Keeping.{least_starts, creations_start}
use Rattle.floor_model.proofs.laws.a_ready_row_starts.Goals as goal

pub returns-clause-least : goal.returns-clause-least
returns-clause-least c = least_starts

pub returns-clause-follow : goal.returns-clause-follow
returns-clause-follow c = creations_start
