use Rattle.std.proofs.Common.{refl, sym, ◌∙◌}
use Rattle.shop_floor.proofs.Shapes.{least_so}
use Rattle.shop_floor.proofs.floor.ShopFloor.least.Goals as goal

pub returns-in-Some-ready_port : goal.returns-in-Some-ready_port
returns-in-Some-ready_port c =
    sym (least_so c.args.self.now ∙ rw (sym c.ready_port.ensures ∙ c.in_default.is, sym c.ready_port-2.ensures ∙ c.in-Some-ready_port.is) refl)

pub returns-in-Some-ready_port-2 : goal.returns-in-Some-ready_port-2
returns-in-Some-ready_port-2 c =
    sym (least_so c.args.self.now ∙ rw (sym c.ready_port.ensures ∙ c.in_default.is, sym c.ready_port-2.ensures ∙ c.in_default-ready_port.is, sym c.ready_port-3.ensures ∙ c.in-Some-ready_port-2.is) refl)

pub returns-in-Some-ready_carrier : goal.returns-in-Some-ready_carrier
returns-in-Some-ready_carrier c =
    sym (least_so c.args.self.now ∙ rw (sym c.ready_port.ensures ∙ c.in_default.is, sym c.ready_port-2.ensures ∙ c.in_default-ready_port.is, sym c.ready_port-3.ensures ∙ c.in_default-ready_port-2.is, sym c.ready_carrier.ensures ∙ c.in-Some-ready_carrier.is) refl)

pub returns : goal.returns
returns c =
    c.ready_carrier-2.ensures
    ∙ sym (least_so c.args.self.now ∙ rw (sym c.ready_port.ensures ∙ c.in_default.is, sym c.ready_port-2.ensures ∙ c.in_default-ready_port.is, sym c.ready_port-3.ensures ∙ c.in_default-ready_port-2.is, sym c.ready_carrier.ensures ∙ c.in_default-ready_carrier.is) refl)
