use Rattle.std.proofs.Common.{◌≡◌, drop}
use Rattle.std.specs.List.{list_any}
use Rattle.floor_model.proofs.Resting.{is_due}
use Rattle.tool_floor.proofs.floor.ToolFloor.is_any_due.Given as goal

abbrev pub invariant-loop-place : goal.invariant-loop-place
invariant-loop-place l = list_any (λ m. list_any (is_due m) l.self.substrates) (drop l.place l.self.modules) ≡ list_any (λ m. list_any (is_due m) l.self.substrates) l.self.modules
