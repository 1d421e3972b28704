-- Laws of finding the first of a list.
use Rattle.std.proofs.Common.{◌≡◌, ℕ, zero, suc, ◌<◌, ◌+◌, Bool, ◌||◌, true, false, List, [], ◌∷◌, length, Option, Some, None, IfSome, IfNone, IsSome, is_some, slice_get, refl, sym, ◌∙◌, ap, arith, add-one, find, drop, cond}
use Rattle.std.specs.List.{list_any}

-- there is one at each place
pub some-at : {X : Type 0} (xs : List X) (i : ℕ) → i < length xs → IsSome (slice_get xs i)
some-at [] i l = absurd (omega arith)
some-at (x ∷ xs) zero l = refl
some-at (x ∷ xs) (suc i) l = some-at xs i (omega arith)

module _ {X : Type 0} (test : X → Bool) where
  -- what stands at a place and passes is the first from there on
  pub find-here : (xs : List X) (i : ℕ) (x : X) → slice_get xs i ≡ Some x → test x ≡ true → find test (drop i xs) ≡ Some x
  find-here [] i x e t = absurd (cc)
  find-here (y ∷ ys) zero x e t =
      let same : y ≡ x = cc in
      let passes : test y ≡ true = ap test same ∙ t in
      rw passes (ap (λ (z : X). Some z) same)
  find-here (y ∷ ys) (suc i) x e t = find-here ys i x e t

  -- what stands at a place and doesn't pass is passed over
  past : (xs : List X) (i : ℕ) (x : X) → slice_get xs i ≡ Some x → test x ≡ false → find test (drop (suc i) xs) ≡ find test (drop i xs)
  past [] i x e t = absurd (cc)
  past (y ∷ ys) zero x e t =
      let same : y ≡ x = cc in
      let fails : test y ≡ false = ap test same ∙ t in
      rw fails refl
  past (y ∷ ys) (suc i) x e t = past ys i x e t

  pub find-past : (xs : List X) (i : ℕ) (x : X) → slice_get xs i ≡ Some x → test x ≡ false → find test (drop (i + 1) xs) ≡ find test (drop i xs)
  find-past xs i x e t = rw add-one (past xs i x e t)

  -- one passes exactly where one is found
  pub any-find : (xs : List X) → list_any test xs ≡ is_some (find test xs)
  any-find [] = refl
  any-find (y ∷ ys) = by_head (test y) ys (any-find ys) where
    by_head : (b : Bool) (ys : List X) → list_any test ys ≡ is_some (find test ys) → (b || list_any test ys) ≡ is_some (cond b (Some y) (find test ys))
    by_head true ys e = refl
    by_head false ys e = e

  -- what was found at a place, or not at all, tells whether one passes
  pub found-any : (xs : List X) (place : Option ℕ) → IfSome place (λ i. i < length xs) → IfSome place (λ i. find test xs ≡ slice_get xs i) → IfNone place (find test xs ≡ None) → is_some place ≡ list_any test xs
  found-any xs None w f n = sym (any-find xs ∙ ap is_some n)
  found-any xs (Some i) w f n = sym (any-find xs ∙ ap is_some f ∙ some-at xs i w)

  -- what is found passes
  pub found-passes : (xs : List X) (x : X) → find test xs ≡ Some x → test x ≡ true
  found-passes [] x e = absurd (cc)
  found-passes (y ∷ ys) x e = by_head (test y) refl e (found-passes ys x) where
    by_head : (b : Bool) → test y ≡ b → cond b (Some y) (find test ys) ≡ Some x → (find test ys ≡ Some x → test x ≡ true) → test x ≡ true
    by_head true q r rest = let same : y ≡ x = cc in ap test (sym same) ∙ q
    by_head false q r rest = rest r
