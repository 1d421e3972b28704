use Rattle.std.proofs.Common.{◌≡◌, drop}
use Rattle.std.specs.List.{list_all}
use Rattle.floor_model.specs.Jobs.{is_at_rest}
use Rattle.tool_floor.proofs.floor.ToolFloor.is_still.Given as goal

abbrev pub invariant-loop-place : goal.invariant-loop-place
invariant-loop-place l = list_all (is_at_rest l.number l.self.places l.self.modules) (drop l.place l.self.substrates) ≡ list_all (is_at_rest l.number l.self.places l.self.modules) l.self.substrates
