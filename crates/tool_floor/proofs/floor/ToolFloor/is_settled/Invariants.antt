use Rattle.std.proofs.Common.{◌≡◌, drop}
use Rattle.std.specs.List.{list_all}
use Rattle.floor_model.specs.Jobs.{is_done_with}
use Rattle.tool_floor.proofs.floor.ToolFloor.is_settled.Given as goal

abbrev pub invariant-loop-place : goal.invariant-loop-place
invariant-loop-place l = list_all (is_done_with l.number l.self.places) (drop l.place l.self.substrates) ≡ list_all (is_done_with l.number l.self.places) l.self.substrates
