use Rattle.picture_laws.proofs.Lost.{losing_agrees}
use Rattle.picture_laws.proofs.laws.what_is_lost_has_no_place_by_numbers.Goals as goal

pub returns : goal.returns
returns c = losing_agrees
