use Rattle.shop_floor.specs.Kept.{kept_floor}
use Rattle.shop_floor.proofs.Keeps.{came-keeps}
use Rattle.shop_floor.proofs.floor.ShopFloor.come.Goals as goal

pub invariant_of-self : goal.invariant_of-self
invariant_of-self c = rw c.come.ensures (came-keeps c.args.port.0 c.args.arrival (kept_floor c.self.inside) c.self.invariant)
