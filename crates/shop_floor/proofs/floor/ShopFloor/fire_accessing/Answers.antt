use Rattle.std.proofs.Common.{List, sym, subst}
use Rattle.carrier.specs.declared.carrier.Carrier.{Carrier}
use Rattle.shop_floor.specs.Floor.{floor_of}
use Rattle.shop_floor.specs.Kept.{kept_floor}
use Rattle.shop_floor.specs.Valid.{IsFloor}
use Rattle.shop_floor.proofs.Keeps.{accessing-keeps}
use Rattle.shop_floor.proofs.floor.ShopFloor.fire_accessing.Goals as goal

pub invariant_of-self : goal.invariant_of-self
invariant_of-self c =
    let after = rw c.number.ensures at c.fire.ensures.after in
    subst (λ (cs : List Carrier). IsFloor (floor_of c.self.inside.ports cs c.self.inside.next_carrier)) (sym after)
    (accessing-keeps (kept_floor c.self.inside) c.args.carrier c.args.row c.self.invariant)
