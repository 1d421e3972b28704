-- How many carriers aren't present.
use Rattle.std.proofs.Common.{◌≡◌, ℕ, zero, suc, ◌+◌, Bool, true, false, cond, if◌then◌else◌, List, [], ◌∷◌, length, take, filter, slice_get, refl, ap, ◌∙◌, add-one, arith}
use Rattle.carrier.specs.Carriers.{is_absent, is_absent_at, absent_count}
use Rattle.carrier.specs.declared.carrier.Carrier.{Carrier}

abbrev one_or_none : Bool → ℕ
one_or_none b = if b then 1 else 0

-- one more carrier is looked at
next_counted : (cs : List Carrier) (place : ℕ) → absent_count (take (suc place) cs) ≡ absent_count (take place cs) + one_or_none (is_absent_at (slice_get cs place))
next_counted [] zero = refl
next_counted [] (suc place) = refl
next_counted (c ∷ cs) zero = by_test (is_absent c) where
  by_test : (b : Bool) → length (cond b (c ∷ filter is_absent (take 0 cs)) (filter is_absent (take 0 cs))) ≡ 0 + one_or_none b
  by_test true = refl
  by_test false = refl
next_counted (c ∷ cs) (suc place) = by_test (is_absent c) (next_counted cs place) where
  by_test : (b : Bool) → absent_count (take (suc place) cs) ≡ absent_count (take place cs) + one_or_none (is_absent_at (slice_get cs place)) → length (cond b (c ∷ filter is_absent (take (suc place) cs)) (filter is_absent (take (suc place) cs))) ≡ length (cond b (c ∷ filter is_absent (take place cs)) (filter is_absent (take place cs))) + one_or_none (is_absent_at (slice_get cs place))
  by_test true later = ap suc later ∙ omega arith
  by_test false later = later

pub absent_next : (cs : List Carrier) (place : ℕ) → is_absent_at (slice_get cs place) ≡ true → absent_count (take (place + 1) cs) ≡ absent_count (take place cs) + 1
absent_next cs place e =
    ap (λ (n : ℕ). absent_count (take n cs)) (add-one place)
    ∙ next_counted cs place
    ∙ ap (λ (b : Bool). absent_count (take place cs) + one_or_none b) e

pub present_next : (cs : List Carrier) (place : ℕ) → is_absent_at (slice_get cs place) ≡ false → absent_count (take (place + 1) cs) ≡ absent_count (take place cs)
present_next cs place e =
    ap (λ (n : ℕ). absent_count (take n cs)) (add-one place)
    ∙ next_counted cs place
    ∙ ap (λ (b : Bool). absent_count (take place cs) + one_or_none b) e
    ∙ omega arith
