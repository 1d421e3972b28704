-- One note after another.
use Rattle.std.proofs.Common.{◌≡◌, ℕ, zero, suc, ◌<◌, List, [], ◌∷◌, ◌++◌, length, Some, slice_get, ap, arith}

-- each element is known, and so is the next
pub all_known : {A : Type 0} → (f : ℕ → A) (xs : List A) (x : A) → ((k : ℕ) → k < length xs → slice_get xs k ≡ Some (f k)) → x ≡ f (length xs) → (k : ℕ) → k < length (xs ++ x ∷ []) → slice_get (xs ++ x ∷ []) k ≡ Some (f k)
all_known f [] x known next zero less = ap Some next
all_known f [] x known next (suc k) less = absurd (omega (arith, less))
all_known f (y ∷ xs) x known next zero less = known 0 (omega arith)
all_known f (y ∷ xs) x known next (suc k) less =
    all_known (λ n. f (suc n)) xs x (λ n fewer. known (suc n) (omega (arith, fewer))) next k (omega (arith, less))
