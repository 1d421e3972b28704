use Rattle.std.proofs.Common.{sym, subst}
use Rattle.records.specs.Stock.{Stock}
use Rattle.carrier.specs.Kept.{AreKept}
use Rattle.carrier.specs.declared.carrier.Carrier.{Carrier}
use Rattle.carrier.specs.declared.change.CarrierChange.TheVariants as change
use Rattle.carrier.proofs.Kept.{kept_named}
use Rattle.carrier.proofs.carriers.Carriers.come.Goals as goal

pub invariant_of-self : goal.invariant_of-self
invariant_of-self c =
    subst (λ (b : Stock Carrier). AreKept b) (sym c.change_named.ensures.after) (kept_named c.as_bytes.result.now (change.Came c.args.port c.args.is_read c.args.map) c.self.inside.book c.self.invariant)
