use Rattle.std.proofs.Common.{◌≡◌, ◌++◌, option_to_list}
use Rattle.state_arrows.specs.Arrows.{gathered}
use Rattle.state_arrows.proofs.gathered.gather.Given as goal

abbrev pub invariant-loop-index : goal.invariant-loop-index
invariant-loop-index g l = l.arrows.items ≡ option_to_list l.fn.created ++ gathered (g.T.Asked.answer) l.states l.index
