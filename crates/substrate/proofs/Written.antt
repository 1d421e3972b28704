-- A list of which one item is written.
use Rattle.std.proofs.Common.{◌≡◌, ℕ, zero, suc, List, [], ◌∷◌, Some, set, slice_get, refl, ap}

module _ {A : Type 0} where
  -- where it is written, where there is an item
  pub written_here : (xs : List A) (i : ℕ) (x y : A) → slice_get xs i ≡ Some y → slice_get (set xs i x) i ≡ Some x
  written_here [] i x y h = absurd (cc)
  written_here (z ∷ zs) zero x y h = refl
  written_here (z ∷ zs) (suc i) x y h = written_here zs i x y h

  -- and elsewhere
  pub written_there : (xs : List A) (i j : ℕ) (x : A) → (i ≡ j → ⊥) → slice_get (set xs i x) j ≡ slice_get xs j
  written_there [] i j x h = refl
  written_there (z ∷ zs) zero zero x h = absurd (h refl)
  written_there (z ∷ zs) zero (suc j) x h = refl
  written_there (z ∷ zs) (suc i) zero x h = refl
  written_there (z ∷ zs) (suc i) (suc j) x h = written_there zs i j x (λ e. h (ap suc e))
