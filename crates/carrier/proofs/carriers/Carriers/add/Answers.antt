use Rattle.std.proofs.Common.{◌≡◌, ◌<◌, false, length, sym, subst, List}
use Rattle.records.specs.Stock.{Stock}
use Rattle.carrier.specs.Carriers.{is_known, most_carriers}
use Rattle.carrier.specs.Kept.{AreKept}
use Rattle.carrier.specs.declared.carrier.Carrier.{Carrier}
use Rattle.carrier.proofs.Kept.{kept_more}
use Rattle.carrier.proofs.carriers.Carriers.add.Goals as goal

pub invariant_of-self : goal.invariant_of-self
invariant_of-self c =
    let unknown = subst (λ (cs : List Carrier). is_known c.args.carrier.name cs ≡ false) (sym c.self.view_is) c.requires.unknown in
    let few = subst (λ (cs : List Carrier). length cs < most_carriers) (sym c.self.view_is) c.requires.few in
    subst (λ (b : Stock Carrier). AreKept b) (sym c.push.ensures) (kept_more c.args.carrier c.self.inside.book c.self.invariant unknown few)
