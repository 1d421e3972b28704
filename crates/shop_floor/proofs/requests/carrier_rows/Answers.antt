use Rattle.std.proofs.Common.{refl}
use Rattle.shop_floor.proofs.requests.carrier_rows.Goals as goal

pub returns-in-Bind : goal.returns-in-Bind
returns-in-Bind c = λ ports.
    let made = c.creation_of.ensures ports in
    rw (c.listed.ensures, made, c.in-Bind.is, c.at_port.ensures, c.at_port-in-Bind.ensures) refl

pub returns-in-Notify : goal.returns-in-Notify
returns-in-Notify c = λ ports.
    let made = c.creation_of-in-Notify.ensures ports in
    rw (c.listed-in-Notify.ensures, made, c.in-Notify.is) refl
