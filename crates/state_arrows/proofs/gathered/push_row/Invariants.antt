use Rattle.std.proofs.Common.{◌≡◌, ◌++◌, drop, filter_map}
use Rattle.state_arrows.proofs.gathered.push_row.Given as goal

-- what was appended, and what the states that are left give, is what all give
abbrev pub invariant-loop-state : goal.invariant-loop-state
invariant-loop-state g l =
    l.initial.arrows.items ++ filter_map (g.T.Asked.answer l.row) l.states ≡ l.arrows.items ++ filter_map (g.T.Asked.answer l.row) (drop l.state-index l.states)
