use Rattle.std.proofs.Common.{◌≡◌, ◌-◌, drop}
use Rattle.floor_model.specs.Substrates.{removed_of}
use Rattle.tool_floor.proofs.floor.ToolFloor.empty_slots.Given as goal

abbrev pub invariant-loop-done : goal.invariant-loop-done
invariant-loop-done l = (l.self ≡ record l.initial.self { places = l.self.places }) × (l.self.places ≡ removed_of l.carrier (drop (l.count - l.done) l.initial.self.substrates) l.initial.self.places)
