-- Laws of numbers that follow one another.
use Rattle.std.proofs.Common.{◌≡◌, ℕ, zero, suc, ◌+◌, List, [], ◌∷◌, ◌++◌, sym, ap, ◌∙◌, arith, add-one, append_assoc}
use Rattle.gem_rows.specs.Events.{numbers_from}

-- one number more
pub numbers_from_more : (first count : ℕ) → numbers_from first (suc count) ≡ numbers_from first count ++ (first + count) ∷ []
numbers_from_more first zero = ap (λ (n : ℕ). n ∷ []) (omega arith)
numbers_from_more first (suc count) =
    ap (λ (ns : List ℕ). first ∷ ns)
    (numbers_from_more (first + 1) count ∙ ap (λ (n : ℕ). numbers_from (first + 1) count ++ n ∷ []) (omega arith))

-- a list with one number more
pub list_and_more : (before : List ℕ) (first count : ℕ) → before ++ numbers_from first (count + 1) ≡ (before ++ numbers_from first count) ++ (first + count) ∷ []
list_and_more before first count = rw (add-one, numbers_from_more first count) (sym (append_assoc before (numbers_from first count) ((first + count) ∷ [])))
