use Rattle.std.proofs.Common.{◌≡◌, ◌+◌, ◌-◌, length}
use Rattle.robot_moves.specs.Moves.{first_of, module_move, next_move}
use Rattle.robot_moves.proofs.planner.Planner.next_of.Given as goal

abbrev pub invariant-loop-index : goal.invariant-loop-index
invariant-loop-index g l =
    first_of (λ number. module_move number (g.P.Whereabouts.told l.places) l.modules) (l.index + 1) (length l.modules - l.index) ≡ next_move (g.P.Whereabouts.told l.places) l.modules
