use Rattle.std.proofs.Common.{◌≡◌, ◌+◌, ◌-◌}
use Rattle.robot_moves.specs.Moves.{first_of, chamber_where_free, free_chamber}
use Rattle.robot_moves.proofs.targets.free_chamber.Given as goal

abbrev pub invariant-loop-index : goal.invariant-loop-index
invariant-loop-index g l =
    first_of (chamber_where_free (g.P.Whereabouts.told l.places) l.modules l.v) (l.index + 1) (8 - l.index) ≡ free_chamber (g.P.Whereabouts.told l.places) l.modules l.v
