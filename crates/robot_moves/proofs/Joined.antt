-- The best of those that were looked at and those that are left.
use Rattle.std.proofs.Common.{◌≡◌, ℕ, suc, ◌+◌, ◌<◌, Bool, true, false, true≢false, cond, List, ◌∷◌, length, get_or, drop, filter, Option, Some, None, refl, sym, ap, ◌∙◌, add-one, drop-cons}
use Rattle.robot_moves.specs.Moves.{goes_first, first_of_two, better, first_among}
use Rattle.robot_moves.specs.declared.view.PlaceView.{PlaceView}
use Rattle.robot_moves.proofs.Best.{first_test, other_first, first_through}

-- the best so far, and the first of the others
abbrev pub joined : Option PlaceView → Option PlaceView → Option PlaceView
joined None others = others
joined (Some best) others = Some (first_of_two best others)

-- one more that was looked at
pub joined_next : (best : Option PlaceView) (v : PlaceView) (others : Option PlaceView) → joined best (Some (first_of_two v others)) ≡ joined (Some (better best v)) others
joined_next None v others = refl
joined_next (Some b) v None = refl
joined_next (Some b) v (Some w) = ap (λ (u : PlaceView). Some u) (by_tests (goes_first v w) (goes_first b v) (goes_first b w) refl refl refl) where
  to : (t s : Bool) (x y : PlaceView) → t ≡ s → cond t x y ≡ cond s x y
  to t s x y e = ap (λ (c : Bool). cond c x y) e

  by_tests : (p q r : Bool) → goes_first v w ≡ p → goes_first b v ≡ q → goes_first b w ≡ r
      → cond (goes_first b (cond p v w)) b (cond p v w) ≡ cond (goes_first (cond q b v) w) (cond q b v) w
  by_tests true true true e1 e2 e3 = to (goes_first b v) true b v e2 ∙ sym (to (goes_first b w) true b w e3)
  by_tests true true false e1 e2 e3 =
      let first = first_through b v w ((first_test b v).0 e2) ((first_test v w).0 e1) in
      absurd (true≢false (sym ((first_test b w).1 first) ∙ e3))
  by_tests true false r e1 e2 e3 = to (goes_first b v) false b v e2 ∙ sym (to (goes_first v w) true v w e1)
  by_tests false true r e1 e2 e3 = refl
  by_tests false false true e1 e2 e3 =
      let first = first_through v b w (other_first b v e2) ((first_test b w).0 e3) in
      absurd (true≢false (sym ((first_test v w).1 first) ∙ e1))
  by_tests false false false e1 e2 e3 = to (goes_first b w) false b w e3 ∙ sym (to (goes_first v w) false v w e1)

-- ---- by the places of a list, of which some pass

module _ (test : PlaceView → Bool) (best : Option PlaceView) (vs : List PlaceView) (i : ℕ) (v : PlaceView) (within : i < length vs) (is : v ≡ get_or vs i v) where
  next_of : drop i vs ≡ v ∷ drop (i + 1) vs
  next_of = drop-cons vs i v within ∙ ap (λ (u : PlaceView). u ∷ drop (suc i) vs) (sym is) ∙ ap (λ (n : ℕ). v ∷ drop n vs) (sym (add-one i))

  abbrev left : List PlaceView → Option PlaceView
  left us = joined best (first_among (filter test us))

  -- one more that passes, and one that doesn't
  pub joined_passes : test v ≡ true → joined (Some (better best v)) (first_among (filter test (drop (i + 1) vs))) ≡ joined best (first_among (filter test (drop i vs)))
  joined_passes e = sym (ap left next_of ∙ rw e (joined_next best v (first_among (filter test (drop (i + 1) vs)))))

  pub joined_fails : test v ≡ false → joined best (first_among (filter test (drop (i + 1) vs))) ≡ joined best (first_among (filter test (drop i vs)))
  joined_fails e = sym (ap left next_of ∙ rw e refl)
