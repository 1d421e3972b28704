use Rattle.std.proofs.Common.{◌≡◌, ◌+◌, ◌*◌, ◌<◌, ◌≤◌, ℕ, false}
use Rattle.substrate.specs.Places.{is_taken_at}
use Rattle.substrate.proofs.places.Places.is_any_at_work.Given as goal

abbrev pub invariant-loop-spot : goal.invariant-loop-spot
invariant-loop-spot l = (l.self.ports * 25 ≤ l.spot) × ((n : ℕ) → l.self.ports * 25 < n → n < l.spot + 1 → is_taken_at n l.self ≡ false)
