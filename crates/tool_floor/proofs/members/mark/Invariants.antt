use Rattle.std.proofs.Common.{◌≡◌, drop}
use Rattle.floor_model.specs.Jobs.{all_marked}
use Rattle.tool_floor.proofs.members.mark.Given as goal

abbrev pub invariant-loop-material : goal.invariant-loop-material
invariant-loop-material l = all_marked (drop l.material-index l.materials) l.shop ≡ all_marked l.materials l.initial.shop
