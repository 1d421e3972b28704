use Rattle.std.proofs.Common.{◌≡◌, map, take}
use Rattle.load_port.specs.Ports.{view_of}
use Rattle.load_port.proofs.ports.Ports.views.Given as goal

abbrev pub invariant-loop-port : goal.invariant-loop-port
invariant-loop-port l = l.views.items ≡ map view_of (take l.port-index l.port-items)
