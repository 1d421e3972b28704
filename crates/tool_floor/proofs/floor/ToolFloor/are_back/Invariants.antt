use Rattle.std.proofs.Common.{◌≡◌, drop}
use Rattle.std.specs.List.{list_all}
use Rattle.floor_model.specs.Wants.{is_back}
use Rattle.tool_floor.proofs.floor.ToolFloor.are_back.Given as goal

abbrev pub invariant-loop-place : goal.invariant-loop-place
invariant-loop-place l = list_all (is_back l.carrier l.self.places) (drop l.place l.self.substrates) ≡ list_all (is_back l.carrier l.self.places) l.self.substrates
