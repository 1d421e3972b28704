use Rattle.std.proofs.Common.{◌≡◌, drop}
use Rattle.std.specs.List.{list_any}
use Rattle.substrate.specs.Locations.{is_same}
use Rattle.robot_moves.proofs.listed.is_empty.Given as goal

abbrev pub invariant-loop-v : goal.invariant-loop-v
invariant-loop-v l = list_any (λ v. is_same v.at l.loc) (drop l.v-index l.places) ≡ list_any (λ v. is_same v.at l.loc) l.places
