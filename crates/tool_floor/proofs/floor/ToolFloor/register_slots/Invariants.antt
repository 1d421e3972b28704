use Rattle.std.proofs.Common.{◌≡◌, ◌+◌, ◌-◌, drop}
use Rattle.floor_model.specs.Substrates.{registers_slots}
use Rattle.tool_floor.proofs.floor.ToolFloor.register_slots.Given as goal

abbrev pub invariant-loop-place : goal.invariant-loop-place
invariant-loop-place l = registers_slots l.carrier l.port (l.place + 1) (25 - l.place) (drop l.place l.carrier.map) l.self ≡ registers_slots l.carrier l.port 1 25 l.carrier.map l.initial.self
