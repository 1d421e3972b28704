-- Digits in lower case are those in upper case once their letters are raised.
use Rattle.std.proofs.Common.{◌≡◌, ℕ, zero, suc, ◌<◌, ◌/◌, ◌%◌, ◌==◌, ◌&&◌, Bool, true, List, [], ◌∷◌, map, get_or, refl, ap, ◌∙◌, inl, inr, arith}
use Rattle.std.proofs.lemmas.Bool.{cases_eq, eqb-true, and_parts}
use Rattle.std.specs.Prelude.{slice_index}
use Rattle.std.specs.Char.{to_ascii_uppercase}
use Rattle.hex.specs.Hex.{encode_with, lower_digits, upper_digits, IsBytes}

-- the first so many digits
abbrev agree : ℕ → Bool
agree zero = true
agree (suc n) = (to_ascii_uppercase (slice_index lower_digits n) == slice_index upper_digits n) && agree n

agree_at : (n d : ℕ) → agree n ≡ true → d < n → to_ascii_uppercase (slice_index lower_digits d) ≡ slice_index upper_digits d
agree_at zero d all low = absurd (omega arith)
agree_at (suc n) d all low =
    let parts = and_parts (to_ascii_uppercase (slice_index lower_digits n) == slice_index upper_digits n) (agree n) all in
    elim (cases_eq d n) [
      | inl is ↦ rw is (eqb-true _ _ parts.0)
      | inr not ↦ agree_at n d parts.1 (omega (arith, not))
    ]

pub upper : (bytes : List ℕ) → IsBytes bytes → map to_ascii_uppercase (encode_with lower_digits bytes) ≡ encode_with upper_digits bytes
unfolding encode_with
upper [] fits = refl
upper (b ∷ rest) fits =
    let byte : b < 256 = fits 0 in
    let high = agree_at 16 (b / 16) refl (omega arith) in
    let low = agree_at 16 (b % 16) refl (omega arith) in
    ap (λ (x : ℕ). x ∷ to_ascii_uppercase (slice_index lower_digits (b % 16)) ∷ map to_ascii_uppercase (encode_with lower_digits rest)) high
    ∙ ap (λ (x : ℕ). slice_index upper_digits (b / 16) ∷ x ∷ map to_ascii_uppercase (encode_with lower_digits rest)) low
    ∙ ap (λ (xs : List ℕ). slice_index upper_digits (b / 16) ∷ slice_index upper_digits (b % 16) ∷ xs) (upper rest (λ i. fits (suc i)))
