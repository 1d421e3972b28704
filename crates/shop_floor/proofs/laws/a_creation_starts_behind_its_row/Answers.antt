use Rattle.shop_floor.proofs.Creations.{creations_start}
use Rattle.shop_floor.proofs.laws.a_creation_starts_behind_its_row.Goals as goal

pub returns : goal.returns
returns c = λ x f starts. creations_start f x
