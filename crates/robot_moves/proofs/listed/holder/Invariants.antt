use Rattle.std.proofs.Common.{◌≡◌, drop, find}
use Rattle.substrate.specs.Locations.{is_same}
use Rattle.robot_moves.proofs.listed.holder.Given as goal

abbrev pub invariant-loop-v : goal.invariant-loop-v
invariant-loop-v l = find (λ v. is_same v.at l.loc) (drop l.v-index l.places) ≡ find (λ v. is_same v.at l.loc) l.places
