use Rattle.shop_floor.proofs.Present.{numbered_contained}
use Rattle.shop_floor.proofs.laws.a_carrier_that_is_found_is_of_the_list.Goals as goal

pub returns : goal.returns
returns c = numbered_contained
