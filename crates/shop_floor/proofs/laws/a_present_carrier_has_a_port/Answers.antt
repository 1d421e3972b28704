use Rattle.shop_floor.proofs.Present.{has_port, has_number}
use Rattle.shop_floor.proofs.laws.a_present_carrier_has_a_port.Goals as goal

pub returns-clause-port : goal.returns-clause-port
returns-clause-port c = has_port

pub returns-clause-number : goal.returns-clause-number
returns-clause-number c = has_number
