use Rattle.std.proofs.Common.{◌≡◌, ◌+◌, ◌++◌}
use Rattle.gem_rows.specs.Events.{numbers_from}
use Rattle.gem_rows.proofs.alarms.push_behind.Given as goal

abbrev pub invariant-loop-number : goal.invariant-loop-number
invariant-loop-number l = l.ids ≡ l.initial.ids ++ numbers_from (l.fn.base + 1) l.number
