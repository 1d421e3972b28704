use Rattle.std.proofs.Common.{sym, option_copied, ap}
use Rattle.carrier.specs.declared.carrier.Carrier.{Carrier}
use Rattle.shop_floor.proofs.Named.{named_test, unnamed_test}
use Rattle.shop_floor.proofs.asking.is_present.Goals as goal

pub returns-in-Some : goal.returns-in-Some
returns-in-Some c =
    let found = rw c.text.ensures.value at c.named.ensures.value in
    sym (named_test (λ (d : Carrier). d.present) c.args.name c.args.carriers.now (option_copied c.named.result) c.in-Some.carrier.now found (ap option_copied c.in-Some.is) c.named.ensures.carriers.apart)

pub returns-in-None : goal.returns-in-None
returns-in-None c =
    let found = rw c.text.ensures.value at c.named.ensures.value in
    sym (unnamed_test (λ (d : Carrier). d.present) c.args.name c.args.carriers.now (option_copied c.named.result) found (ap option_copied c.in-None.is) c.named.ensures.carriers.apart)
