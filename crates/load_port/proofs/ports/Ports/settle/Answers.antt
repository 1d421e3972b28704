use Rattle.std.proofs.Common.{sym}
use Rattle.load_port.proofs.Places.{change_missing}
use Rattle.load_port.proofs.ports.Ports.settle.Goals as goal

pub returns-in_default : goal.returns-in_default
returns-in_default c = sym (change_missing _ c.args.number c.args.self.now (c.place_of.ensures.missing c.in_default.is))
