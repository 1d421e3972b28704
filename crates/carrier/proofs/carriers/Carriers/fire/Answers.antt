use Rattle.std.proofs.Common.{sym, subst}
use Rattle.records.specs.Stock.{Stock}
use Rattle.carrier.specs.Kept.{AreKept}
use Rattle.carrier.specs.declared.carrier.Carrier.{Carrier}
use Rattle.carrier.specs.declared.change.CarrierChange.TheVariants as change
use Rattle.carrier.proofs.Kept.{kept_numbered}
use Rattle.carrier.proofs.carriers.Carriers.fire.Goals as goal

pub invariant_of-self : goal.invariant_of-self
invariant_of-self c =
    subst (λ (b : Stock Carrier). AreKept b) (sym c.change_numbered.ensures.after) (kept_numbered c.args.number (change.Row c.args.table c.args.row) c.self.inside.book c.self.invariant)
