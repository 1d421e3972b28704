use Rattle.std.proofs.Common.{◌≡◌, ◌++◌, map, take}
use Rattle.state_charts.specs.Names.{arrow_name}
use Rattle.state_charts.proofs.draw.draw_arrows.Given as goal

abbrev pub invariant-loop-arrow : goal.invariant-loop-arrow
invariant-loop-arrow l = l.picture ≡ l.fn.picture ++ map arrow_name (take l.arrow-index l.arrows)
