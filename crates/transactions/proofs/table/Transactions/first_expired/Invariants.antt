use Rattle.std.proofs.Common.{take}
use Rattle.transactions.proofs.Expiring.{IsFirst}
use Rattle.transactions.proofs.table.Transactions.first_expired.Given as goal

abbrev pub invariant-loop-place : goal.invariant-loop-place
invariant-loop-place l = IsFirst l.at.0 (take l.place l.self.opened) l.first
