use Rattle.std.proofs.Common.{◌≡◌, drop}
use Rattle.std.specs.List.{list_all}
use Rattle.floor_model.specs.Jobs.{is_material_here}
use Rattle.tool_floor.proofs.members.are_here.Given as goal

abbrev pub invariant-loop-material : goal.invariant-loop-material
invariant-loop-material l = list_all (is_material_here l.shop) (drop l.material-index l.materials) ≡ list_all (is_material_here l.shop) l.materials
