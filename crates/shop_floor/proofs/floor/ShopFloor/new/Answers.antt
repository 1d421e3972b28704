use Rattle.shop_floor.proofs.Keeps.{opening-valid}
use Rattle.shop_floor.proofs.floor.ShopFloor.new.Goals as goal

pub invariant_of-result : goal.invariant_of-result
invariant_of-result c = rw (c.new-2.ensures, c.in_ok-new.ensures) (opening-valid c.args.ports c.requires)
