-- Names in the order of their bytes: each is given once where none has the same one next behind it.
use Rattle.std.proofs.Common.{◌≡◌, ℕ, suc, ◌+◌, ◌≤◌, Bool, true, false, true≢false, cond, not, ◌&&◌, ◌||◌, List, [], ◌∷◌, bytes_eq, arith, refl, sym, ap, ◌∙◌, add-one}
use Rattle.std.specs.List.{sum_by}
use Rattle.std.specs.List.Sorted.{IsPermutation, IsSorted}
use Rattle.std.specs.Cmp.Lexicographic.{slice_cmp, texts_ties}
use Rattle.std.specs.Ordering.{ordering_reverse, is_lt, is_eq, nat_cmp}
use Rattle.std.specs.declared.cmp.Ordering.{Ordering}
use Rattle.std.specs.declared.cmp.Ordering.TheVariants.{Less, Equal, Greater}
use Rattle.std.proofs.lemmas.Cmp.{nat_list_cmp_total}
use Rattle.std.proofs.lemmas.List.Sorted.{ranks_by, sum_by-IsPermutation}
use Rattle.std.proofs.lemmas.List.Sums.{sum_by-cons}
use Rattle.records.proofs.Texts.{same_name, own_name}
use Rattle.control_job.specs.Names.{is_in, is_each_once}
use Rattle.job_requests.specs.Neighbours.{is_first, are_neighbours_apart}

-- ---- names in order

abbrev lt : List ℕ → List ℕ → Bool
lt x y = is_lt (slice_cmp nat_cmp x y)

-- names of which neither stands before the other are the same
neither_before : (x y : List ℕ) → lt x y ≡ false → lt y x ≡ false → bytes_eq x y ≡ true
neither_before x y e f = texts_ties x y ∙ by_order (slice_cmp nat_cmp x y) e (ap is_lt (sym (nat_list_cmp_total.antisymm y x)) ∙ f) where
  by_order : (o : Ordering) → is_lt o ≡ false → is_lt (ordering_reverse o) ≡ false → is_eq o ≡ true
  by_order Less e f = absurd (true≢false e)
  by_order Equal e f = refl
  by_order Greater e f = absurd (true≢false f)

after : (x y z : List ℕ) → lt x y ≡ false → lt y z ≡ false → lt x z ≡ false
after = (ranks_by nat_list_cmp_total (λ (x : List ℕ). x)).chain

in_order_behind : (x : List ℕ) (xs : List (List ℕ)) → IsSorted (slice_cmp nat_cmp) (x ∷ xs) → IsSorted (slice_cmp nat_cmp) xs
in_order_behind x xs up = λ k d low high. rw add-one (rw add-one at (up (suc k) d (omega arith) (omega (arith, high))))

-- where no name before the first is looked for, it is found first or not at all
found_first : (n : List ℕ) (y : List ℕ) (ys : List (List ℕ)) → IsSorted (slice_cmp nat_cmp) (y ∷ ys) → lt y n ≡ false → is_in n (y ∷ ys) ≡ true → bytes_eq y n ≡ true
found_first n y [] up from e = by_test (bytes_eq y n) e where
  by_test : (b : Bool) → (b || false) ≡ true → b ≡ true
  by_test true e = refl
  by_test false e = e
found_first n y (z ∷ zs) up from e =
    let next : lt z y ≡ false = up 0 y (omega arith) (omega arith) in
    by_test (bytes_eq y n) refl next (found_first n z zs (in_order_behind y (z ∷ zs) up) (after z y n next from)) e where
      by_test : (b : Bool) → bytes_eq y n ≡ b → lt z y ≡ false → (is_in n (z ∷ zs) ≡ true → bytes_eq z n ≡ true) → (b || is_in n (z ∷ zs)) ≡ true → b ≡ true
      by_test true t next later e = refl
      by_test false t next later e =
          let same : z ≡ n = same_name z n (later e) in
          sym t ∙ neither_before y n from (ap (λ (m : List ℕ). lt m y) (sym same) ∙ next)

-- so the neighbours tell whether it is given again
first_found : (n : List ℕ) (ns : List (List ℕ)) → IsSorted (slice_cmp nat_cmp) (n ∷ ns) → is_first n ns ≡ is_in n ns
first_found n [] up = refl
first_found n (m ∷ ms) up = by_test (is_in n (m ∷ ms)) refl where
  by_test : (b : Bool) → is_in n (m ∷ ms) ≡ b → bytes_eq m n ≡ b
  by_test true t = found_first n m ms (in_order_behind n (m ∷ ms) up) (up 0 n (omega arith) (omega arith)) t
  by_test false t = not_first (bytes_eq m n) t where
    not_first : (c : Bool) → (c || is_in n ms) ≡ false → c ≡ false
    not_first true e = e
    not_first false e = refl

pub apart_in_order : (ns : List (List ℕ)) → IsSorted (slice_cmp nat_cmp) ns → are_neighbours_apart ns ≡ is_each_once ns
apart_in_order [] up = refl
apart_in_order (n ∷ ns) up = rw (first_found n ns up, apart_in_order ns (in_order_behind n ns up)) refl

-- ---- the same names in another order

-- how many times a name is given
abbrev times : List ℕ → List (List ℕ) → ℕ
times x [] = 0
times x (n ∷ ns) = cond (bytes_eq n x) 1 0 + times x ns

times_sum : (x : List ℕ) (ns : List (List ℕ)) → times x ns ≡ sum_by (λ n. cond (bytes_eq n x) 1 0) ns
times_sum x [] = refl
times_sum x (n ∷ ns) = omega (arith, times_sum x ns, sum_by-cons (λ m. cond (bytes_eq m x) 1 0) n ns)

not_given : (x : List ℕ) (ns : List (List ℕ)) → is_in x ns ≡ false → times x ns ≡ 0
not_given x [] e = refl
not_given x (n ∷ ns) e = by_test (bytes_eq n x) (not_given x ns) e where
  by_test : (b : Bool) → (is_in x ns ≡ false → times x ns ≡ 0) → (b || is_in x ns) ≡ false → cond b 1 0 + times x ns ≡ 0
  by_test true later e = absurd (true≢false e)
  by_test false later e = omega (arith, later e)

given : (x : List ℕ) (ns : List (List ℕ)) → is_in x ns ≡ true → 1 ≤ times x ns
given x [] e = absurd (true≢false (sym e))
given x (n ∷ ns) e = by_test (bytes_eq n x) (given x ns) e where
  by_test : (b : Bool) → (is_in x ns ≡ true → 1 ≤ times x ns) → (b || is_in x ns) ≡ true → 1 ≤ cond b 1 0 + times x ns
  by_test true later e = omega arith
  by_test false later e = omega (arith, later e)

once_at_most : (ns : List (List ℕ)) → is_each_once ns ≡ true → (x : List ℕ) → times x ns ≤ 1
once_at_most [] e x = omega arith
once_at_most (n ∷ ns) e x = by_test (is_in n ns) (bytes_eq n x) refl refl (λ o. once_at_most ns o x) e where
  by_test : (a b : Bool) → is_in n ns ≡ a → bytes_eq n x ≡ b → (is_each_once ns ≡ true → times x ns ≤ 1) → (not a && is_each_once ns) ≡ true → cond b 1 0 + times x ns ≤ 1
  by_test true b i t later e = absurd (true≢false (sym e))
  by_test false true i t later e = omega (arith, not_given x ns (ap (λ (m : List ℕ). is_in m ns) (sym (same_name n x t)) ∙ i))
  by_test false false i t later e = omega (arith, later e)

at_most_once : (ns : List (List ℕ)) → ((x : List ℕ) → times x ns ≤ 1) → is_each_once ns ≡ true
at_most_once [] few = refl
at_most_once (n ∷ ns) few = by_test (is_in n ns) refl (rw (own_name n) at (few n)) (at_most_once ns (λ x. omega (arith, few x))) where
  by_test : (a : Bool) → is_in n ns ≡ a → 1 + times n ns ≤ 1 → is_each_once ns ≡ true → (not a && is_each_once ns) ≡ true
  by_test true i own later = absurd (omega (arith, own, given n ns i))
  by_test false i own later = later

pub once_in_any_order : (xs ys : List (List ℕ)) → IsPermutation xs ys → is_each_once ys ≡ is_each_once xs
once_in_any_order xs ys p = by_test (is_each_once ys) (is_each_once xs) refl refl where
  same : (x : List ℕ) → times x ys ≡ times x xs
  same x = times_sum x ys ∙ sum_by-IsPermutation (λ n. cond (bytes_eq n x) 1 0) xs ys p ∙ sym (times_sum x xs)

  by_test : (a b : Bool) → is_each_once ys ≡ a → is_each_once xs ≡ b → a ≡ b
  by_test true true e f = refl
  by_test true false e f = sym (at_most_once xs (λ x. omega (arith, once_at_most ys e x, same x))) ∙ f
  by_test false true e f = sym e ∙ at_most_once ys (λ x. omega (arith, once_at_most xs f x, same x))
  by_test false false e f = refl
