use Rattle.std.proofs.Common.{◌≡◌, ℕ, ◌<◌, ◌≤◌, ◌+◌, ◌-◌, true, length}
use Rattle.transactions.specs.Table.{has_system}
use Rattle.transactions.specs.SystemBytes.{behind}
use Rattle.transactions.proofs.table.Transactions.next_free.Given as goal

abbrev pub invariant-loop-skipped : goal.invariant-loop-skipped
invariant-loop-skipped l = record {
  all_open : (k : ℕ) → k < l.skipped → has_system l.self.opened (behind l.self.next k) ≡ true;
  few : l.skipped ≤ length l.self.opened;
}

abbrev pub decreases-loop-skipped : goal.decreases-loop-skipped
decreases-loop-skipped l = (length l.self.opened + 1) - l.skipped
