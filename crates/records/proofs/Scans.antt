-- What a scan over the places of a list finds.
use Rattle.std.proofs.Common.{◌≡◌, ℕ, zero, suc, ◌+◌, ◌≤◌, Bool, true, false, List, [], ◌∷◌, ◌++◌, length, drop, take, find, Some, None, slice_get, refl, sym, ap, ◌∙◌, add-one, arith}
use Rattle.std.specs.List.{list_any}
use Rattle.gem_tables.specs.Table.{update_at}

module _ {X : Type 0} where
  drop_suc : (xs : List X) (place : ℕ) (x : X) → slice_get xs place ≡ Some x → drop place xs ≡ x ∷ drop (suc place) xs
  drop_suc [] place x e = absurd (cc)
  drop_suc (y ∷ ys) zero x e = let same : x ≡ y = cc in ap (λ z. z ∷ ys) (sym same)
  drop_suc (y ∷ ys) (suc place) x e = drop_suc ys place x e

  -- the rest of a list begins with what has its place
  pub drop_here : (xs : List X) (place : ℕ) (x : X) → slice_get xs place ≡ Some x → drop place xs ≡ x ∷ drop (place + 1) xs
  drop_here xs place x e = drop_suc xs place x e ∙ ap (λ (n : ℕ). x ∷ drop n xs) (sym (add-one place))

  pub drop_none : (xs : List X) (place : ℕ) → slice_get xs place ≡ None → drop place xs ≡ []
  drop_none [] zero e = refl
  drop_none [] (suc place) e = refl
  drop_none (y ∷ ys) zero e = absurd (cc)
  drop_none (y ∷ ys) (suc place) e = drop_none ys place e

  pub get_later : (xs : List X) (place : ℕ) → slice_get xs place ≡ None → slice_get xs (suc place) ≡ None
  get_later [] place e = refl
  get_later (y ∷ ys) zero e = absurd (cc)
  get_later (y ∷ ys) (suc place) e = get_later ys place e

  -- nothing is left where a place has nothing
  pub drop_past : (xs : List X) (place : ℕ) → slice_get xs place ≡ None → drop place xs ≡ drop (place + 1) xs
  drop_past xs place e =
      drop_none xs place e
      ∙ sym (drop_none xs (suc place) (get_later xs place e))
      ∙ ap (λ (n : ℕ). drop n xs) (sym (add-one place))

  -- nothing is left behind a place that has nothing
  pub drop_later : (xs : List X) (place : ℕ) → slice_get xs place ≡ None → drop (place + 1) xs ≡ []
  drop_later xs place e = ap (λ (n : ℕ). drop n xs) (add-one place) ∙ drop_none xs (suc place) (get_later xs place e)

  -- nothing is left behind the end
  pub drop_end : (xs : List X) (place : ℕ) → length xs ≤ place → drop place xs ≡ []
  drop_end [] zero l = refl
  drop_end [] (suc place) l = refl
  drop_end (y ∷ ys) zero l = absurd (omega arith)
  drop_end (y ∷ ys) (suc place) l = drop_end ys place (omega arith)

  -- there is nothing
  pub get_end : (xs : List X) (place : ℕ) → length xs ≤ place → slice_get xs place ≡ None
  get_end [] place l = refl
  get_end (y ∷ ys) zero l = absurd (omega arith)
  get_end (y ∷ ys) (suc place) l = get_end ys place (omega arith)

  -- and nothing changes
  pub update_end : (change : X → X) (xs : List X) (place : ℕ) → length xs ≤ place → update_at place change xs ≡ xs
  update_end change [] place l = refl
  update_end change (y ∷ ys) zero l = absurd (omega arith)
  update_end change (y ∷ ys) (suc place) l = ap (λ zs. y ∷ zs) (update_end change ys place (omega arith))

  -- ---- the first so many

  take_suc : (xs : List X) (place : ℕ) (x : X) → slice_get xs place ≡ Some x → take (suc place) xs ≡ take place xs ++ x ∷ []
  take_suc [] zero x e = absurd (cc)
  take_suc [] (suc place) x e = absurd (cc)
  take_suc (y ∷ ys) zero x e = let same : y ≡ x = cc in ap (λ z. z ∷ []) same
  take_suc (y ∷ ys) (suc place) x e = ap (λ zs. y ∷ zs) (take_suc ys place x e)

  -- they are one more with what has the next place
  pub take_here : (xs : List X) (place : ℕ) (x : X) → slice_get xs place ≡ Some x → take (place + 1) xs ≡ take place xs ++ x ∷ []
  take_here xs place x e = ap (λ (n : ℕ). take n xs) (add-one place) ∙ take_suc xs place x e

  take_same : (xs : List X) (place : ℕ) → slice_get xs place ≡ None → take (suc place) xs ≡ take place xs
  take_same [] zero e = refl
  take_same [] (suc place) e = refl
  take_same (y ∷ ys) zero e = absurd (cc)
  take_same (y ∷ ys) (suc place) e = ap (λ zs. y ∷ zs) (take_same ys place e)

  pub take_past : (xs : List X) (place : ℕ) → slice_get xs place ≡ None → take (place + 1) xs ≡ take place xs
  take_past xs place e = ap (λ (n : ℕ). take n xs) (add-one place) ∙ take_same xs place e

  -- all are taken at the end
  pub take_end : (xs : List X) (place : ℕ) → length xs ≤ place → take place xs ≡ xs
  take_end [] zero l = refl
  take_end [] (suc place) l = refl
  take_end (y ∷ ys) zero l = absurd (omega arith)
  take_end (y ∷ ys) (suc place) l = ap (λ zs. y ∷ zs) (take_end ys place (omega arith))

  -- ---- the first that passes a test

  pub find_here : (test : X → Bool) (xs : List X) (place : ℕ) (x : X) → slice_get xs place ≡ Some x → test x ≡ true → find test (drop place xs) ≡ Some x
  find_here test xs place x e t = rw (drop_here xs place x e, t) refl

  pub find_next : (test : X → Bool) (xs : List X) (place : ℕ) (x : X) → slice_get xs place ≡ Some x → test x ≡ false → find test (drop place xs) ≡ find test (drop (place + 1) xs)
  find_next test xs place x e t = rw (drop_here xs place x e, t) refl

  pub find_past : (test : X → Bool) (xs : List X) (place : ℕ) → slice_get xs place ≡ None → find test (drop place xs) ≡ find test (drop (place + 1) xs)
  find_past test xs place e = ap (λ ys. find test ys) (drop_past xs place e)

  -- ---- whether one passes a test

  pub any_here : (test : X → Bool) (xs : List X) (place : ℕ) (x : X) → slice_get xs place ≡ Some x → test x ≡ true → list_any test (drop place xs) ≡ true
  any_here test xs place x e t = rw (drop_here xs place x e, t) refl

  pub any_next : (test : X → Bool) (xs : List X) (place : ℕ) (x : X) → slice_get xs place ≡ Some x → test x ≡ false → list_any test (drop place xs) ≡ list_any test (drop (place + 1) xs)
  any_next test xs place x e t = rw (drop_here xs place x e, t) refl

  pub any_past : (test : X → Bool) (xs : List X) (place : ℕ) → slice_get xs place ≡ None → list_any test (drop place xs) ≡ list_any test (drop (place + 1) xs)
  any_past test xs place e = ap (λ ys. list_any test ys) (drop_past xs place e)
