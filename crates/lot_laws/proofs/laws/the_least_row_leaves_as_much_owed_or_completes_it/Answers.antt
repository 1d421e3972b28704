use Rattle.lot_laws.proofs.Least.{least-goes}
use Rattle.lot_laws.proofs.laws.the_least_row_leaves_as_much_owed_or_completes_it.Goals as goal

pub returns : goal.returns
returns c = λ number planned counted f x h t s e q. least-goes number planned counted f h t s e x q
