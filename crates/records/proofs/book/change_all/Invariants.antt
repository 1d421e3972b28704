use Rattle.std.proofs.Common.{◌≡◌, ◌++◌, map, take, drop}
use Rattle.records.proofs.book.change_all.Given as goal

abbrev pub invariant-loop-one : goal.invariant-loop-one
invariant-loop-one g l =
    l.one-items ≡ map (g.C.Change.does l.change) (take l.one-index l.initial.one-items) ++ drop l.one-index l.initial.one-items
