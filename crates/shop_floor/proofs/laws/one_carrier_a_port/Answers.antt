use Rattle.shop_floor.proofs.Present.{one_there, one_number}
use Rattle.shop_floor.proofs.laws.one_carrier_a_port.Goals as goal

pub returns-clause-same : goal.returns-clause-same
returns-clause-same c = one_there

pub returns-clause-number : goal.returns-clause-number
returns-clause-number c = one_number
