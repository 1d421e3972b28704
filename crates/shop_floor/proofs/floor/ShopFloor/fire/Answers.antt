use Rattle.shop_floor.specs.Floor.{floor_of}
use Rattle.shop_floor.specs.Kept.{kept_floor}
use Rattle.shop_floor.proofs.Without.{fired-valid}
use Rattle.shop_floor.proofs.floor.ShopFloor.fire.Goals as goal

pub invariant_of-self : goal.invariant_of-self
invariant_of-self c =
    let starts = rw (← c.self.view_is) at c.requires in
    fired-valid c.fire.result c.args.x (kept_floor c.self.inside) (floor_of c.fire.new.ports c.fire.new.carriers c.fire.new.next) starts c.self.invariant c.fire.ensures.ok c.fire.ensures.err
