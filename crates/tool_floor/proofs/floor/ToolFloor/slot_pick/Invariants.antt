use Rattle.std.proofs.Common.{◌≡◌, drop}
use Rattle.floor_model.specs.Picks.{slot_pick, first_given, first_in_slot}
use Rattle.tool_floor.proofs.floor.ToolFloor.slot_pick.Given as goal

abbrev pub invariant-loop-place : goal.invariant-loop-place
invariant-loop-place l = first_given (λ s. slot_pick s l.self l.modules) (drop l.place l.self.substrates) ≡ first_in_slot l.self l.modules
