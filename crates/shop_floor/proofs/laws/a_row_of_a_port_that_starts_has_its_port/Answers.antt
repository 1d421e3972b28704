use Rattle.shop_floor.proofs.Held.{port_within}
use Rattle.shop_floor.proofs.laws.a_row_of_a_port_that_starts_has_its_port.Goals as goal

pub returns : goal.returns
returns c = port_within
