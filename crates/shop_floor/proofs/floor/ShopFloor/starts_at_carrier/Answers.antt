use Rattle.std.proofs.Common.{sym, ap, ◌∙◌, option_copied}
use Rattle.shop_floor.specs.Kept.{kept_floor}
use Rattle.shop_floor.specs.Machines.{floor_starts}
use Rattle.shop_floor.proofs.Started.{carrier_begins, carrier_stays, carrier_lacks}
use Rattle.shop_floor.proofs.floor.ShopFloor.starts_at_carrier.Goals as goal

pub returns-then-starts_or_creates : goal.returns-then-starts_or_creates
returns-then-starts_or_creates c =
    let wants = c.carrier_wants.ensures in
    carrier_begins c.args.x (kept_floor c.self.inside) c.in-Some.carrier.now c.carrier_wants.result c.requires (sym c.numbered.ensures.value ∙ ap option_copied c.in-Some.is)
    (sym c.starts_or_creates.ensures ∙ c.if-starts_or_creates.true) wants.id wants.map wants.accessing
    ∙ ap (floor_starts c.args.x) c.self.view_is

pub returns-else-starts_or_creates : goal.returns-else-starts_or_creates
returns-else-starts_or_creates c =
    c.if-starts_or_creates.false
    ∙ carrier_stays c.args.x (kept_floor c.self.inside) c.in-Some.carrier.now c.requires (sym c.numbered.ensures.value ∙ ap option_copied c.in-Some.is) (sym c.starts_or_creates.ensures ∙ c.if-starts_or_creates.false)
    ∙ ap (floor_starts c.args.x) c.self.view_is

pub returns-in-None : goal.returns-in-None
returns-in-None c =
    carrier_lacks c.args.x (kept_floor c.self.inside) c.requires (sym c.numbered.ensures.value ∙ ap option_copied c.in-None.is)
    ∙ ap (floor_starts c.args.x) c.self.view_is
