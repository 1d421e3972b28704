use Rattle.std.proofs.Common.{◌≡◌, map, take}
use Rattle.data_variables.specs.Bodies.{items, name_item}
use Rattle.data_variables.proofs.bodies.name_items.Given as goal

abbrev pub invariant-loop-ecid : goal.invariant-loop-ecid
invariant-loop-ecid l = l.told ≡ items (map name_item (take l.ecid-index l.ids))
