use Rattle.std.proofs.Common.{◌≡◌, drop}
use Rattle.std.specs.List.{list_any}
use Rattle.floor_model.specs.Naming.{module_names}
use Rattle.tool_floor.proofs.floor.ToolFloor.is_named.Given as goal

abbrev pub invariant-loop-place : goal.invariant-loop-place
invariant-loop-place l = list_any (module_names l.sub) (drop l.place l.self.modules) ≡ list_any (module_names l.sub) l.self.modules
