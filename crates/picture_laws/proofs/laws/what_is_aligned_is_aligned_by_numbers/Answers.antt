use Rattle.picture_laws.proofs.Closing.{aligning_agrees}
use Rattle.picture_laws.proofs.laws.what_is_aligned_is_aligned_by_numbers.Goals as goal

pub returns : goal.returns
returns c = λ m n change x state s f found here is. aligning_agrees m change x state f n s found here is
