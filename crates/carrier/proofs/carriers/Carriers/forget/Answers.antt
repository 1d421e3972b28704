use Rattle.std.proofs.Common.{sym, subst, not}
use Rattle.records.specs.Stock.{Stock}
use Rattle.carrier.specs.Carriers.{has_name}
use Rattle.carrier.specs.Kept.{AreKept}
use Rattle.carrier.specs.declared.carrier.Carrier.{Carrier}
use Rattle.carrier.proofs.Kept.{kept_fewer}
use Rattle.carrier.proofs.carriers.Carriers.forget.Goals as goal

pub invariant_of-self : goal.invariant_of-self
invariant_of-self c =
    subst (λ (b : Stock Carrier). AreKept b) (sym c.forget_named.ensures) (kept_fewer (λ (d : Carrier). not (has_name c.as_bytes.result.now d)) c.self.inside.book c.self.invariant)
