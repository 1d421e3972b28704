use Rattle.std.proofs.Common.{◌≡◌, drop}
use Rattle.carrier.specs.Carriers.{is_usable}
use Rattle.carrier.proofs.carrier.is_usable.Given as goal

abbrev pub invariant-loop-code : goal.invariant-loop-code
invariant-loop-code l = is_usable (drop l.code-index l.slots) ≡ is_usable l.slots
