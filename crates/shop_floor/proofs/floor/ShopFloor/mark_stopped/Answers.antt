use Rattle.shop_floor.specs.Kept.{kept_floor}
use Rattle.shop_floor.proofs.Marked.{marked-keeps}
use Rattle.shop_floor.proofs.floor.ShopFloor.mark_stopped.Goals as goal

pub invariant_of-self : goal.invariant_of-self
invariant_of-self c = rw c.mark_stopped.ensures (marked-keeps c.args.name (kept_floor c.self.inside) c.self.invariant)
