use Rattle.std.proofs.Common.{◌≡◌, find, drop}
use Rattle.transactions.specs.Sought.{fits}
use Rattle.transactions.proofs.table.Transactions.place_of.Given as goal

abbrev pub invariant-loop-place : goal.invariant-loop-place
invariant-loop-place l = find (fits l.sought) (drop l.place l.self.opened) ≡ find (fits l.sought) l.self.opened
