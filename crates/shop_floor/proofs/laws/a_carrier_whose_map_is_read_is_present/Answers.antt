use Rattle.shop_floor.proofs.Present.{map_present, verified_present, id_present}
use Rattle.shop_floor.proofs.laws.a_carrier_whose_map_is_read_is_present.Goals as goal

pub returns-clause-map : goal.returns-clause-map
returns-clause-map c = map_present

pub returns-clause-verified : goal.returns-clause-verified
returns-clause-verified c = verified_present

pub returns-clause-id : goal.returns-clause-id
returns-clause-id c = id_present
