use Rattle.std.proofs.Common.{◌≡◌, drop}
use Rattle.std.specs.List.{list_any}
use Rattle.floor_model.specs.Jobs.{is_of_carrier}
use Rattle.tool_floor.proofs.members.is_carrier_of_any.Given as goal

abbrev pub invariant-loop-material : goal.invariant-loop-material
invariant-loop-material l = list_any (is_of_carrier l.name) (drop l.material-index l.materials) ≡ list_any (is_of_carrier l.name) l.materials
