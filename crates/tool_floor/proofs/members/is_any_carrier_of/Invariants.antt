use Rattle.std.proofs.Common.{◌≡◌, drop}
use Rattle.std.specs.List.{list_any}
use Rattle.floor_model.specs.Jobs.{is_carrier_of}
use Rattle.tool_floor.proofs.members.is_any_carrier_of.Given as goal

abbrev pub invariant-loop-place : goal.invariant-loop-place
invariant-loop-place l = list_any (is_carrier_of l.name l.number) (drop l.place l.shop.carriers) ≡ list_any (is_carrier_of l.name l.number) l.shop.carriers
