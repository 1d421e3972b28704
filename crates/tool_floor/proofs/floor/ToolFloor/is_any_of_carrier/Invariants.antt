use Rattle.std.proofs.Common.{◌≡◌, drop}
use Rattle.std.specs.List.{list_any}
use Rattle.floor_model.specs.Jobs.{names_carrier}
use Rattle.tool_floor.proofs.floor.ToolFloor.is_any_of_carrier.Given as goal

abbrev pub invariant-loop-place : goal.invariant-loop-place
invariant-loop-place l = list_any (names_carrier l.name) (drop l.place l.self.jobs.process.kept) ≡ list_any (names_carrier l.name) l.self.jobs.process.kept
