use Rattle.std.proofs.Common.{◌≡◌, ℕ, ◌+◌, ◌==◌, Bool, true, false, if◌then◌else◌, List, [], length, arith}
use Rattle.std.proofs.lemmas.Bool.Decides.{nat_tests}
use Rattle.gem_model.specs.Sizes.{counted}
use Rattle.history_parts.proofs.parts.add_taken.Goals as goal

either_way : (a b : ℕ) → (a == b) ≡ (b == a)
either_way a b = grind (arith, nat_tests)

by_test : (b : Bool) (old new n : ℕ) (frame : List ℕ) → new ≡ (if b then counted (old + length frame) else old) → old ≡ counted n → new ≡ counted (n + length (if b then frame else []))
by_test true old new n frame adds count = omega arith
by_test false old new n frame adds count = omega arith

added : (old new n k session : ℕ) (frame : List ℕ) → new ≡ (if k == session then counted (old + length frame) else old) → old ≡ counted n → new ≡ counted (n + length (if session == k then frame else []))
added old new n k session frame adds count = rw (either_way session k) (by_test (k == session) old new n frame adds count)

pub returns-in-Take-Frame : goal.returns-in-Take-Frame
returns-in-Take-Frame c =
    λ k n count. rw (c.in-Take-Frame.is-0, c.in-Take-Frame.is-1) (added _ _ n k _ _ (rw c.as_slice.ensures at (c.add.ensures.counts k)) count)
