use Rattle.std.proofs.Common.{◌≡◌, drop}
use Rattle.std.specs.List.{list_any}
use Rattle.floor_model.specs.Jobs.{names_slot_of}
use Rattle.tool_floor.proofs.members.is_slot_of_any.Given as goal

abbrev pub invariant-loop-material : goal.invariant-loop-material
invariant-loop-material l = list_any (names_slot_of l.shop l.s) (drop l.material-index l.materials) ≡ list_any (names_slot_of l.shop l.s) l.materials
