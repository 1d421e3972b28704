use Rattle.lot_laws.proofs.Orderly.{opening-in_order, least-in_order, row-in_order, fetched-in_order, done-in_order, failed-in_order, down-in_order, lost-in_order}
use Rattle.lot_laws.proofs.laws.an_unfinished_substrate_in_its_slot_is_not_aligned.Goals as goal

pub returns-clause-unaligned : goal.returns-clause-unaligned
returns-clause-unaligned c = λ f o. o.unaligned

pub returns-clause-begins : goal.returns-clause-begins
returns-clause-begins c = opening-in_order

pub returns-clause-ready : goal.returns-clause-ready
returns-clause-ready c = least-in_order

pub returns-clause-alone : goal.returns-clause-alone
returns-clause-alone c = row-in_order

pub returns-clause-fetched : goal.returns-clause-fetched
returns-clause-fetched c = fetched-in_order

pub returns-clause-done : goal.returns-clause-done
returns-clause-done c = done-in_order

pub returns-clause-failed : goal.returns-clause-failed
returns-clause-failed c = failed-in_order

pub returns-clause-down : goal.returns-clause-down
returns-clause-down c = down-in_order

pub returns-clause-lost : goal.returns-clause-lost
returns-clause-lost c = lost-in_order
