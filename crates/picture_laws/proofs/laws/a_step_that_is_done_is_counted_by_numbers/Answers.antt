use Rattle.floor_moves.specs.Floor.{idle}
use Rattle.picture_laws.proofs.Closing.{stepping_agrees}
use Rattle.picture_laws.proofs.laws.a_step_that_is_done_is_counted_by_numbers.Goals as goal

pub returns : goal.returns
returns c = λ m n change x s f found few here is. stepping_agrees m change x idle f n s found few here is
