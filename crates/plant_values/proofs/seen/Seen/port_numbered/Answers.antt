use Rattle.std.proofs.Common.{◌-◌, ◌∙◌, ap, slice_get}
use Rattle.shop_floor.specs.Floor.{Floor}
use Rattle.plant_values.proofs.PortValues.{numbered_at}
use Rattle.plant_values.proofs.seen.Seen.port_numbered.Goals as goal

pub returns : goal.returns
returns c =
    let there = c.port.ensures ∙ ap (λ (f : Floor). slice_get f.ports (c.args.number - 1)) c.shop.ensures in
    rw (← c.self.view_is) (there ∙ numbered_at c.args.number c.self.inside.floor.shop.ports c.if-number-eq0.false)
