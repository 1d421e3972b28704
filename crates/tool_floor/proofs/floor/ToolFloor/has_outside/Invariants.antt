use Rattle.std.proofs.Common.{◌≡◌, ◌&&◌, drop}
use Rattle.std.specs.List.{list_any}
use Rattle.floor_model.specs.Substrates.{is_of, is_outside}
use Rattle.tool_floor.proofs.floor.ToolFloor.has_outside.Given as goal

abbrev pub invariant-loop-place : goal.invariant-loop-place
invariant-loop-place l = list_any (λ s. is_of l.carrier s && is_outside s l.self.places) (drop l.place l.self.substrates) ≡ list_any (λ s. is_of l.carrier s && is_outside s l.self.places) l.self.substrates
