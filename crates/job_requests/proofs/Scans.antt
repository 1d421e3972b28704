-- What a scan over the places of a list finds.
use Rattle.std.proofs.Common.{◌≡◌, ℕ, ◌+◌, ◌≤◌, Bool, true, false, List, [], ◌∷◌, length, find, drop, Some, None, is_some, cond, ◌||◌, slice_get, refl, ap, ◌∙◌}
use Rattle.std.specs.List.{list_any}
use Rattle.records.proofs.Scans.{drop_here, drop_none, drop_later, drop_end}

module _ {X : Type 0} (test : X → Bool) where
  -- what stands here is the first
  pub found_here : (xs : List X) (place : ℕ) (x : X) → slice_get xs place ≡ Some x → test x ≡ true → find test (drop place xs) ≡ Some x
  found_here xs place x e t = ap (find test) (drop_here xs place x e) ∙ rw t refl

  -- it is another one
  pub found_later : (xs : List X) (place : ℕ) (x : X) → slice_get xs place ≡ Some x → test x ≡ false → find test (drop place xs) ≡ find test (drop (place + 1) xs)
  found_later xs place x e t = ap (find test) (drop_here xs place x e) ∙ rw t refl

  -- nothing stands here
  pub found_past : (xs : List X) (place : ℕ) → slice_get xs place ≡ None → find test (drop place xs) ≡ find test (drop (place + 1) xs)
  found_past xs place e = rw (drop_none xs place e, drop_later xs place e) refl

  -- the list has ended
  pub found_end : (xs : List X) (place : ℕ) → length xs ≤ place → find test (drop place xs) ≡ None
  found_end xs place l = ap (find test) (drop_end xs place l)

  -- something is found where a test holds of something
  pub found_any : (xs : List X) → is_some (find test xs) ≡ list_any test xs
  found_any [] = refl
  found_any (x ∷ xs) = by_test (test x) (found_any xs) where
    by_test : (b : Bool) → is_some (find test xs) ≡ list_any test xs → is_some (cond b (Some x) (find test xs)) ≡ (b || list_any test xs)
    by_test true later = refl
    by_test false later = later
