use Rattle.std.proofs.Common.{◌≡◌, drop}
use Rattle.std.specs.List.{list_any}
use Rattle.floor_model.specs.Naming.{processes}
use Rattle.tool_floor.proofs.floor.ToolFloor.is_processed.Given as goal

abbrev pub invariant-loop-place : goal.invariant-loop-place
invariant-loop-place l = list_any (processes l.s.sub) (drop l.place l.self.modules) ≡ list_any (processes l.s.sub) l.self.modules
