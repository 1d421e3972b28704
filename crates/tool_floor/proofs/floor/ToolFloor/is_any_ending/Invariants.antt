use Rattle.std.proofs.Common.{◌≡◌, drop}
use Rattle.std.specs.List.{list_any}
use Rattle.floor_model.specs.Jobs.{is_ending}
use Rattle.tool_floor.proofs.floor.ToolFloor.is_any_ending.Given as goal

abbrev pub invariant-loop-place : goal.invariant-loop-place
invariant-loop-place l = list_any (is_ending) (drop l.place l.self.jobs.process.kept) ≡ list_any (is_ending) l.self.jobs.process.kept
