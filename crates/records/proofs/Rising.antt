-- Lists of records whose numbers rise.
use Rattle.std.proofs.Common.{◌≡◌, ℕ, zero, suc, ◌+◌, ◌==◌, ◌≤◌, ◌<◌, Bool, true, false, cond, List, [], ◌∷◌, ◌++◌, length, map, remove, filter, find, position, slice_index_or, Option, Some, None, slice_get, refl, sym, ap, ◌∙◌, subst, arith}
use Rattle.std.specs.List.{position_from}
use Rattle.std.specs.List.Sorted.{IsNonDecreasingBy}
use Rattle.std.proofs.lemmas.Bool.Decides.{nat_tests}
use Rattle.std.proofs.lemmas.Iterator.Adapters.{position_from-zero}
use Rattle.gem_tables.specs.Table.{update_at}
use Rattle.records.specs.Numbers.{has_number, record_numbered, AreRising}

module _ {R : Type 0} (number : R → ℕ) where
  -- the numbers from behind one on rise from behind a smaller one
  pub lower : (low last given : ℕ) (rs : List R) → low ≤ last → AreRising number last given rs → AreRising number low given rs
  lower low last given [] l h = omega (arith, l, h)
  lower low last given (r ∷ rs) l h = (omega (arith, l, h.0), h.1)

  pub last_given : (last given : ℕ) (rs : List R) → AreRising number last given rs → last ≤ given
  last_given last given [] h = h
  last_given last given (r ∷ rs) h = let later = last_given (number r) given rs h.1 in omega (arith, h.0, later)

  -- the number of the one at a place
  pub number_at : (last given : ℕ) (rs : List R) (place : ℕ) (k : R) → AreRising number last given rs → slice_get rs place ≡ Some k → (last < number k) × (number k ≤ given)
  number_at last given [] place k h e = absurd (cc)
  number_at last given (r ∷ rs) zero k h e =
      let same : r ≡ k = cc in
      subst (λ (x : R). (last < number x) × (number x ≤ given)) same (h.0, last_given (number r) given rs h.1)
  number_at last given (r ∷ rs) (suc place) k h e =
      let later = number_at (number r) given rs place k h.1 e in
      (omega (arith, h.0, later.0), later.1)

  -- and of one that is found
  pub number_found : (test : R → Bool) (last given : ℕ) (rs : List R) (found : R) → AreRising number last given rs → find test rs ≡ Some found → (last < number found) × (number found ≤ given)
  number_found test last given [] found h e = absurd (cc)
  number_found test last given (r ∷ rs) found h e = by_test (test r) e (number_found test (number r) given rs found h.1) where
    by_test : (b : Bool) → cond b (Some r) (find test rs) ≡ Some found → (find test rs ≡ Some found → (number r < number found) × (number found ≤ given)) → (last < number found) × (number found ≤ given)
    by_test true f later =
        let same : r ≡ found = cc in
        subst (λ (d : R). (last < number d) × (number d ≤ given)) same (h.0, last_given (number r) given rs h.1)
    by_test false f later = let l = later f in (omega (arith, h.0, l.0), l.1)

  pub numbers_rise : (last given : ℕ) (rs : List R) (m n : ℕ) (j k : R) → AreRising number last given rs → m < n → slice_get rs m ≡ Some j → slice_get rs n ≡ Some k → number j < number k
  numbers_rise last given [] m n j k h l e f = absurd (cc)
  numbers_rise last given (r ∷ rs) m zero j k h l e f = absurd (omega (arith, l))
  numbers_rise last given (r ∷ rs) zero (suc n) j k h l e f =
      let same : r ≡ j = cc in
      subst (λ (x : R). number x < number k) same (number_at (number r) given rs n k h.1 f).0
  numbers_rise last given (r ∷ rs) (suc m) (suc n) j k h l e f = numbers_rise (number r) given rs m n j k h.1 (omega (arith, l)) e f

  -- the one at a place is found by its number
  pub numbered_at : (last given : ℕ) (rs : List R) (place : ℕ) (k : R) → AreRising number last given rs → slice_get rs place ≡ Some k → record_numbered number (number k) rs ≡ Some k
  numbered_at last given [] place k h e = absurd (cc)
  numbered_at last given (r ∷ rs) zero k h e =
      let same : r ≡ k = cc in
      let own : (number r == number r) ≡ true = grind (arith, nat_tests) in
      subst (λ (x : R). record_numbered number (number x) (r ∷ rs) ≡ Some x) same (rw own refl)
  numbered_at last given (r ∷ rs) (suc place) k h e =
      let past = (number_at (number r) given rs place k h.1 e).0 in
      let other : (number r == number k) ≡ false = grind (arith, nat_tests, past) in
      rw other (numbered_at (number r) given rs place k h.1 e)

  -- the records rise where their numbers do
  pub rising_numbers : (last given : ℕ) (rs : List R) → AreRising number last given rs → AreRising (λ n. n) last given (map number rs)
  rising_numbers last given [] h = h
  rising_numbers last given (r ∷ rs) h = (h.0, rising_numbers (number r) given rs h.1)

  pub rising_records : (last given : ℕ) (rs : List R) → AreRising (λ n. n) last given (map number rs) → AreRising number last given rs
  rising_records last given [] h = h
  rising_records last given (r ∷ rs) h = (h.0, rising_records (number r) given rs h.1)

  -- ---- what keeps them rising

  -- one more, whose number is past the last that was given
  pub rising_more : (last given next : ℕ) (k : R) (rs : List R) → AreRising number last given rs → number k ≡ next → given < next → AreRising number last next (rs ++ k ∷ [])
  rising_more last given next k [] h e l = (omega (arith, h, e, l), omega (arith, e))
  rising_more last given next k (r ∷ rs) h e l = (h.0, rising_more (number r) given next k rs h.1 e l)

  -- one that changes, but for its number
  pub rising_update : (change : R → R) → ((r : R) → number (change r) ≡ number r) → (last given place : ℕ) (rs : List R) → AreRising number last given rs → AreRising number last given (update_at place change rs)
  rising_update change same last given place [] h = h
  rising_update change same last given zero (r ∷ rs) h =
      (subst (λ (n : ℕ). last < n) (sym (same r)) h.0, subst (λ (n : ℕ). AreRising number n given rs) (sym (same r)) h.1)
  rising_update change same last given (suc place) (r ∷ rs) h = (h.0, rising_update change same (number r) given place rs h.1)

  -- all of them
  pub rising_mapped : (change : R → R) → ((r : R) → number (change r) ≡ number r) → (last given : ℕ) (rs : List R) → AreRising number last given rs → AreRising number last given (map change rs)
  rising_mapped change same last given [] h = h
  rising_mapped change same last given (r ∷ rs) h =
      (subst (λ (n : ℕ). last < n) (sym (same r)) h.0, rising_mapped change same (number (change r)) given rs (subst (λ (n : ℕ). AreRising number n given rs) (sym (same r)) h.1))

  -- one that is removed
  pub rising_fewer : (last given : ℕ) (rs : List R) (place : ℕ) → AreRising number last given rs → AreRising number last given (remove rs place)
  rising_fewer last given [] zero h = h
  rising_fewer last given [] (suc place) h = h
  rising_fewer last given (r ∷ rs) zero h = lower last (number r) given rs (omega (arith, h.0)) h.1
  rising_fewer last given (r ∷ rs) (suc place) h = (h.0, rising_fewer (number r) given rs place h.1)

  -- those that don't pass a test
  pub rising_filter : (test : R → Bool) (last given : ℕ) (rs : List R) → AreRising number last given rs → AreRising number last given (filter test rs)
  rising_filter test last given [] h = h
  rising_filter test last given (r ∷ rs) h = by_test (test r) (rising_filter test (number r) given rs h.1) where
    by_test : (b : Bool) → AreRising number (number r) given (filter test rs) → AreRising number last given (cond b (r ∷ filter test rs) (filter test rs))
    by_test true later = (h.0, later)
    by_test false later = lower last (number r) given (filter test rs) (omega (arith, h.0)) later

  -- ---- a search that halves

  first_below : (last given : ℕ) (rs : List R) (j : ℕ) (d : R) → AreRising number last given rs → j < length rs → last < number (slice_index_or rs j d)
  first_below last given [] j d h l = absurd (omega (arith, l))
  first_below last given (r ∷ rs) zero d h l = h.0
  first_below last given (r ∷ rs) (suc j) d h l =
      let later = first_below (number r) given rs j d h.1 (omega (arith, l)) in
      omega (arith, h.0, later)

  pub non_decreasing : (last given : ℕ) (rs : List R) → AreRising number last given rs → IsNonDecreasingBy number rs
  non_decreasing last given [] h i j d le lt = absurd (omega (arith, lt))
  non_decreasing last given (r ∷ rs) h zero zero d le lt = omega arith
  non_decreasing last given (r ∷ rs) h zero (suc j) d le lt =
      let later = first_below (number r) given rs j d h.1 (omega (arith, lt)) in
      omega (arith, later)
  non_decreasing last given (r ∷ rs) h (suc i) zero d le lt = absurd (omega (arith, le))
  non_decreasing last given (r ∷ rs) h (suc i) (suc j) d le lt = non_decreasing (number r) given rs h.1 i j d (omega (arith, le)) (omega (arith, lt))

  -- what is at a place, where it has the number
  abbrev checked : ℕ → ℕ → Option R → Option ℕ
  checked n place None = None
  checked n place (Some r) = cond (number r == n) (Some place) None

  none_past : (n last given k : ℕ) (rs : List R) → AreRising number last given rs → n ≤ last → position_from (has_number number n) k rs ≡ None
  none_past n last given k [] h l = refl
  none_past n last given k (r ∷ rs) h l =
      let other : (number r == n) ≡ false = let past = h.0 in grind (arith, nat_tests, past, l) in
      rw other (none_past n (number r) given (k + 1) rs h.1 (omega (arith, h.0, l)))

  -- the place before which all numbers are less, and from which on none is, is the only one that can have the number
  searched_from : (n last given place k : ℕ) (rs : List R) → AreRising number last given rs
      → ((i : ℕ) (d : R) → i < place → i < length rs → number (slice_index_or rs i d) < n)
      → ((i : ℕ) (d : R) → place ≤ i → i < length rs → n ≤ number (slice_index_or rs i d))
      → position_from (has_number number n) k rs ≡ checked n (k + place) (slice_get rs place)
  searched_from n last given place k [] h less past = refl
  searched_from n last given zero k (r ∷ rs) h less past = by_test (number r == n) refl where
    by_test : (b : Bool) → (number r == n) ≡ b → cond b (Some k) (position_from (has_number number n) (k + 1) rs) ≡ cond b (Some (k + 0)) None
    by_test true q = ap (λ (m : ℕ). Some m) (omega arith)
    by_test false q =
        let least = past 0 r (omega arith) (omega arith) in
        none_past n (number r) given (k + 1) rs h.1 (omega (arith, least))
  searched_from n last given (suc place) k (r ∷ rs) h less past =
      let small = less 0 r (omega arith) (omega arith) in
      let other : (number r == n) ≡ false = grind (arith, nat_tests, small) in
      rw other (
      searched_from n (number r) given place (k + 1) rs h.1
      (λ i d l m. less (suc i) d (omega (arith, l)) (omega (arith, m)))
      (λ i d l m. past (suc i) d (omega (arith, l)) (omega (arith, m)))
      ∙ ap (λ (m : ℕ). checked n m (slice_get rs place)) (omega arith)
      )

  module _ (n given place : ℕ) (rs : List R) (h : AreRising number 0 given rs)
      (less : (i : ℕ) (d : R) → i < place → i < length rs → number (slice_index_or rs i d) < n)
      (past : (i : ℕ) (d : R) → place ≤ i → i < length rs → n ≤ number (slice_index_or rs i d))
    where
      searched : position (has_number number n) rs ≡ checked n place (slice_get rs place)
      searched =
          position_from-zero (has_number number n) rs
          ∙ searched_from n 0 given place 0 rs h less past
          ∙ ap (λ (m : ℕ). checked n m (slice_get rs place)) (omega arith)

      pub searched_here : (r : R) → slice_get rs place ≡ Some r → number r ≡ n → Some place ≡ position (has_number number n) rs
      searched_here r e t =
          let is : (number r == n) ≡ true = grind (arith, nat_tests, t) in
          sym (searched ∙ ap (λ (o : Option R). checked n place o) e ∙ rw is refl)

      pub searched_other : (r : R) → slice_get rs place ≡ Some r → (number r == n) ≡ false → None ≡ position (has_number number n) rs
      searched_other r e t = sym (searched ∙ ap (λ (o : Option R). checked n place o) e ∙ rw t refl)

      pub searched_none : slice_get rs place ≡ None → None ≡ position (has_number number n) rs
      searched_none e = sym (searched ∙ ap (λ (o : Option R). checked n place o) e)
