-- The best pick is what the profile says.
use Rattle.std.proofs.Common.{Decides, ◌≡◌, ◌⊎◌, inl, inr, ℕ, zero, suc, ◌==◌, ◌≤◌, ◌<◌, nat_lt, nat_le, Bool, true, false, true≢false, cond, ◌&&◌, ◌||◌, List, [], ◌∷◌, filter, Option, Some, None, slice_get, refl, sym, ◌∙◌, subst, arith}
use Rattle.std.specs.List.{AllByRecursion}
use Rattle.std.proofs.lemmas.Bool.Decides.{nat_tests, not_from_Decides, Decides-or, Decides-and, Decides-ltb, Decides-eqb}
use Rattle.robot_moves.specs.Moves.{stage_of, goes_first, first_of_two, first_among, is_useful, best_pick}
use Rattle.robot_moves.specs.Best.{GoesFirst, IsBestPick, NoneUseful}
use Rattle.robot_moves.specs.declared.module.Module.{Module}
use Rattle.robot_moves.specs.declared.view.PlaceView.{PlaceView}

-- ---- which of two goes first

-- by a stage and a number
abbrev First : ℕ → ℕ → ℕ → ℕ → Type 0
First s n t m = (t < s) ⊎ ((t ≡ s) × (n ≤ m))

through : (s n t m u k : ℕ) → First s n t m → First t m u k → First s n u k
through s n t m u k (inl l) (inl r) = inl (omega (arith, l, r))
through s n t m u k (inl l) (inr h) = let r = h.0 in inl (omega (arith, l, r))
through s n t m u k (inr g) (inl r) = let l = g.0 in inl (omega (arith, l, r))
through s n t m u k (inr g) (inr h) = let l = g.1 in let r = h.1 in inr (h.0 ∙ g.0, omega (arith, l, r))

alike : (s n t m : ℕ) → First s n t m → First t m s n → n ≡ m
alike s n t m (inl l) (inl r) = absurd (omega (arith, l, r))
alike s n t m (inl l) (inr h) = let r = h.0 in absurd (omega (arith, l, r))
alike s n t m (inr g) (inl r) = let l = g.0 in absurd (omega (arith, l, r))
alike s n t m (inr g) (inr h) = let l = g.1 in let r = h.1 in omega (arith, l, r)

or_else : (s n t m : ℕ) → (First s n t m → ⊥) → First t m s n
or_else s n t m not_first = of (nat_lt s t) refl (nat_lt t s) refl (nat_le m n) refl where
  of : (a : Bool) → nat_lt s t ≡ a → (b : Bool) → nat_lt t s ≡ b → (c : Bool) → nat_le m n ≡ c → First t m s n
  of true p b q c r = let l : s < t = grind (arith, nat_tests) in inl l
  of false p true q c r = let l : t < s = grind (arith, nat_tests) in absurd (not_first (inl l))
  of false p false q true r =
      let one : s ≡ t = grind (arith, nat_tests) in
      let l : m ≤ n = grind (arith, nat_tests) in
      inr (one, l)
  of false p false q false r =
      let one : t ≡ s = grind (arith, nat_tests) in
      let l : n ≤ m = grind (arith, nat_tests) in
      absurd (not_first (inr (one, l)))

number_test : (n m : ℕ) → Decides (nat_le n m) (n ≤ m)
number_test n m = (λ e. grind (arith, nat_tests), λ l. grind (arith, nat_tests))

module _ (v w : PlaceView) where
  -- the test tells it
  pub first_test : Decides (goes_first v w) (GoesFirst v w)
  first_test =
      Decides-or (nat_lt (stage_of w.at) (stage_of v.at)) ((stage_of w.at == stage_of v.at) && nat_le v.number w.number) (Decides-ltb (stage_of w.at) (stage_of v.at))
      (Decides-and (stage_of w.at == stage_of v.at) (nat_le v.number w.number) (Decides-eqb (stage_of w.at) (stage_of v.at)) (number_test v.number w.number))

  -- the other does where one doesn't
  pub other_first : goes_first v w ≡ false → GoesFirst w v
  other_first e = or_else (stage_of v.at) v.number (stage_of w.at) w.number (not_from_Decides (goes_first v w) first_test e)

  -- where both do, they have one number
  pub one_number_of : GoesFirst v w → GoesFirst w v → v.number ≡ w.number
  one_number_of g h = alike (stage_of v.at) v.number (stage_of w.at) w.number g h

pub first_own : (v : PlaceView) → GoesFirst v v
first_own v = inr (refl, omega arith)

pub first_through : (u v w : PlaceView) → GoesFirst u v → GoesFirst v w → GoesFirst u w
first_through u v w g h = through (stage_of u.at) u.number (stage_of v.at) v.number (stage_of w.at) w.number g h

-- ---- the first of several

-- one of several goes first of all
pub record IsFirst (vs : List PlaceView) (v : PlaceView) : Type 0 where
  pub there : (i : ℕ) × (slice_get vs i ≡ Some v)
  pub first : AllByRecursion (GoesFirst v) vs

before_all : (u v : PlaceView) (vs : List PlaceView) → GoesFirst u v → AllByRecursion (GoesFirst v) vs → AllByRecursion (GoesFirst u) vs
before_all u v [] l h = tt
before_all u v (w ∷ ws) l h = (first_through u v w l h.0, before_all u v ws l h.1)

pub is_first : (vs : List PlaceView) (v : PlaceView) → first_among vs ≡ Some v → IsFirst vs v
is_first [] v e = absurd (cc)
is_first (w ∷ ws) v e = by_option (first_among ws) refl (is_first ws) e where
  alone : (us : List PlaceView) → first_among us ≡ None → AllByRecursion (GoesFirst w) us
  alone [] n = tt
  alone (u ∷ us) n = absurd (cc)

  by_test : (u : PlaceView) → IsFirst ws u → (b : Bool) → goes_first w u ≡ b → IsFirst (w ∷ ws) (cond b w u)
  by_test u h true q =
      record { there = (0, refl); first = (first_own w, before_all w u ws ((first_test w u).0 q) h.first) }
  by_test u h false q =
      record { there = (suc h.there.0, h.there.1); first = (other_first w u q, h.first) }

  by_option : (o : Option PlaceView) → first_among ws ≡ o → ((u : PlaceView) → first_among ws ≡ Some u → IsFirst ws u) → Some (first_of_two w o) ≡ Some v → IsFirst (w ∷ ws) v
  by_option None n later f =
      let same : w ≡ v = cc in
      subst (IsFirst (w ∷ ws)) same (record { there = (0, refl); first = (first_own w, alone ws n) })
  by_option (Some u) s later f =
      let same : first_of_two w (Some u) ≡ v = cc in
      subst (IsFirst (w ∷ ws)) same (by_test u (later u s) (goes_first w u) refl)

-- ---- those that pass

-- what is among those that pass is among all, and passes
pub among : (test : PlaceView → Bool) (vs : List PlaceView) (v : PlaceView) (i : ℕ) → slice_get (filter test vs) i ≡ Some v → ((j : ℕ) × (slice_get vs j ≡ Some v)) × (test v ≡ true)
among test [] v i e = absurd (cc)
among test (w ∷ ws) v i e = by_test (test w) refl i e (λ j f. among test ws v j f) where
  by_test : (b : Bool) → test w ≡ b → (k : ℕ) → slice_get (cond b (w ∷ filter test ws) (filter test ws)) k ≡ Some v → ((j : ℕ) → slice_get (filter test ws) j ≡ Some v → ((n : ℕ) × (slice_get ws n ≡ Some v)) × (test v ≡ true)) → ((n : ℕ) × (slice_get (w ∷ ws) n ≡ Some v)) × (test v ≡ true)
  by_test true q zero f later =
      let same : w ≡ v = cc in
      ((0, f), subst (λ (u : PlaceView). test u ≡ true) same q)
  by_test true q (suc k) f later = let found = later k f in ((suc found.0.0, found.0.1), found.1)
  by_test false q k f later = let found = later k f in ((suc found.0.0, found.0.1), found.1)

-- what holds of those that pass holds of each that passes
pub of_passing : (test : PlaceView → Bool) (P : PlaceView → Type 0) (vs : List PlaceView) → AllByRecursion P (filter test vs) → AllByRecursion (λ (w : PlaceView). test w ≡ true → P w) vs
of_passing test P [] h = h
of_passing test P (w ∷ ws) h = by_test (test w) refl h (of_passing test P ws) where
  by_test : (b : Bool) → test w ≡ b → AllByRecursion P (cond b (w ∷ filter test ws) (filter test ws)) → (AllByRecursion P (filter test ws) → AllByRecursion (λ (u : PlaceView). test u ≡ true → P u) ws) → AllByRecursion (λ (u : PlaceView). test u ≡ true → P u) (w ∷ ws)
  by_test true q g later = (λ _. g.0, later g.1)
  by_test false q g later = (λ p. absurd (true≢false (sym p ∙ q)), later g)

pub none_passes : (test : PlaceView → Bool) (vs : List PlaceView) → first_among (filter test vs) ≡ None → AllByRecursion (λ (w : PlaceView). test w ≡ false) vs
none_passes test [] e = tt
none_passes test (w ∷ ws) e = by_test (test w) refl e (none_passes test ws) where
  by_test : (b : Bool) → test w ≡ b → first_among (cond b (w ∷ filter test ws) (filter test ws)) ≡ None → (first_among (filter test ws) ≡ None → AllByRecursion (λ (u : PlaceView). test u ≡ false) ws) → AllByRecursion (λ (u : PlaceView). test u ≡ false) (w ∷ ws)
  by_test true q f later = absurd (cc)
  by_test false q f later = (q, later f)

-- ---- the best pick

module _ (views : List PlaceView) (modules : List Module) where
  pub best_is : (v : PlaceView) → best_pick views modules ≡ Some v → IsBestPick views modules v
  best_is v e =
      let found = is_first (filter (is_useful views modules) views) v e in
      let here = among (is_useful views modules) views v found.there.0 found.there.1 in
      record {
        there = here.0;
        useful = here.1;
        first = of_passing (is_useful views modules) (GoesFirst v) views found.first;
      }

  pub none_is : best_pick views modules ≡ None → NoneUseful views modules
  none_is e = none_passes (is_useful views modules) views e
