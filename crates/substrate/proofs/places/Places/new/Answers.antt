use Rattle.std.proofs.Common.{sym, subst, List, replicate, None, ap, ◌∙◌}
use Rattle.substrate.specs.Board.{spot_count}
use Rattle.substrate.specs.Tied.{AreTied}
use Rattle.substrate.specs.declared.registered.Registered.{Registered}
use Rattle.substrate.proofs.Tying.{tied_none}
use Rattle.substrate.proofs.places.Places.new.Goals as goal

pub invariant_of-result : goal.invariant_of-result
invariant_of-result c =
    let board = c.in_ok-board.board in
    subst (λ (rs : List Registered). AreTied rs board 0) (sym c.in_ok-names.ensures)
    (tied_none board (c.in_ok-board.ensures.names ∙ ap (λ n. replicate (spot_count n c.args.chambers) None) (sym c.in_ok-board.ensures.ports) ∙ ap (λ n. replicate (spot_count board.ports n) None) (sym c.in_ok-board.ensures.chambers)))
