use Rattle.floor_model.proofs.Falls.{least_falls}
use Rattle.floor_model.proofs.Keeping.{creation_same, creation_last, creations}
use Rattle.floor_model.proofs.laws.the_floor_comes_to_rest.Goals as goal

pub returns-clause-falls : goal.returns-clause-falls
returns-clause-falls c = least_falls

pub returns-clause-follow : goal.returns-clause-follow
returns-clause-follow c = creations

pub returns-clause-creation : goal.returns-clause-creation
returns-clause-creation c = creation_same

pub returns-clause-no_more : goal.returns-clause-no_more
returns-clause-no_more c = creation_last
