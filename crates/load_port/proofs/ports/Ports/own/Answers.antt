use Rattle.std.proofs.Common.{sym}
use Rattle.load_port.specs.declared.port.Port.{Port}
use Rattle.load_port.proofs.Places.{changed_there, change_missing}
use Rattle.load_port.proofs.ports.Ports.own.Goals as goal

pub returns-in-Some : goal.returns-in-Some
returns-in-Some c =
    changed_there c.self.inside.ports.items c.deref_mut.result.now c.args.self.now c.args.number c.in-Some.place c.index-deref_mut-place.result (λ (p : Port). record p { carrier = c.args.carrier })
    c.deref_mut.ensures.value c.self.view_is c.in-Some.ensures.within c.in-Some.ensures.counted

pub returns-in_default : goal.returns-in_default
returns-in_default c = sym (change_missing _ c.args.number c.args.self.now (c.place_of.ensures.missing c.in_default.is))
