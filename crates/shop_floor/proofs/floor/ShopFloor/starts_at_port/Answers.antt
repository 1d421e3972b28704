use Rattle.std.proofs.Common.{sym, ap, ◌∙◌, option_copied}
use Rattle.shop_floor.specs.Kept.{kept_floor}
use Rattle.shop_floor.specs.Machines.{floor_starts}
use Rattle.shop_floor.proofs.Started.{port_begins, port_stays, port_lacks}
use Rattle.shop_floor.proofs.floor.ShopFloor.starts_at_port.Goals as goal

pub returns-then-fire : goal.returns-then-fire
returns-then-fire c =
    let wants = c.port_wants.ensures in
    port_begins c.args.x (kept_floor c.self.inside) c.in-Some.port.now c.port_no-number.result.0 c.port_wants.result c.requires (sym c.numbered.ensures.value ∙ ap option_copied c.in-Some.is) c.port_no-number.ensures
    (sym c.fire.ensures.fires ∙ c.if-fire.true) wants.transfer wants.access wants.reservation wants.association
    ∙ ap (floor_starts c.args.x) c.self.view_is

pub returns-else-fire : goal.returns-else-fire
returns-else-fire c =
    c.if-fire.false
    ∙ port_stays c.args.x (kept_floor c.self.inside) c.in-Some.port.now c.requires (sym c.numbered.ensures.value ∙ ap option_copied c.in-Some.is) (sym c.fire.ensures.fires ∙ c.if-fire.false)
    ∙ ap (floor_starts c.args.x) c.self.view_is

pub returns-in-None : goal.returns-in-None
returns-in-None c =
    port_lacks c.args.x (kept_floor c.self.inside) c.requires (sym c.numbered.ensures.value ∙ ap option_copied c.in-None.is)
    ∙ ap (floor_starts c.args.x) c.self.view_is
