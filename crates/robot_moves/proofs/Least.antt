-- Which of several is the best pick, and who is at a location, by what is known of each.
use Rattle.std.proofs.Common.{◌≡◌, ℕ, zero, suc, ◌<◌, ◌≤◌, Bool, true, false, true≢false, cond, not, ◌||◌, List, [], ◌∷◌, filter, Option, Some, None, is_some, slice_get, refl, sym, ap, ◌∙◌, subst, arith}
use Rattle.std.specs.List.{AllByRecursion, list_any}
use Rattle.gem_ids.specs.declared.numbers.LocId.{LocId}
use Rattle.substrate.specs.Locations.{is_same}
use Rattle.substrate.proofs.Sites.{same_is, own_place}
use Rattle.robot_moves.specs.Moves.{holder, is_empty, is_useful, best_pick}
use Rattle.robot_moves.specs.Best.{GoesFirst}
use Rattle.robot_moves.specs.declared.module.Module.{Module}
use Rattle.robot_moves.specs.declared.view.PlaceView.{PlaceView}
use Rattle.robot_moves.proofs.Best.{one_number_of, best_is, none_is}

-- what is true of all is true of each
pub all_at : (P : PlaceView → Type 0) (vs : List PlaceView) (i : ℕ) (v : PlaceView) → AllByRecursion P vs → slice_get vs i ≡ Some v → P v
all_at P [] i v h e = absurd (cc)
all_at P (w ∷ ws) zero v h e = let same : w ≡ v = cc in subst P same h.0
all_at P (w ∷ ws) (suc i) v h e = all_at P ws i v h.1 e

-- ---- numbers that rise

-- the numbers rise, from behind one number on
abbrev pub RisesFrom : ℕ → List PlaceView → Type 0
RisesFrom last [] = Unit {0}
RisesFrom last (v ∷ vs) = (last < v.number) × RisesFrom v.number vs

pub rises_earlier : (last later : ℕ) (vs : List PlaceView) → last ≤ later → RisesFrom later vs → RisesFrom last vs
rises_earlier last later [] l h = tt
rises_earlier last later (v ∷ vs) l h = (let here = h.0 in omega (arith, here, l), h.1)

rises_at : (last : ℕ) (vs : List PlaceView) (i : ℕ) (v : PlaceView) → RisesFrom last vs → slice_get vs i ≡ Some v → last < v.number
rises_at last [] i v h e = absurd (cc)
rises_at last (w ∷ ws) zero v h e = let same : w ≡ v = cc in subst (λ (u : PlaceView). last < u.number) same h.0
rises_at last (w ∷ ws) (suc i) v h e =
    let later = rises_at w.number ws i v h.1 e in
    let here = h.0 in
    omega (arith, here, later)

-- each number is that of one
pub one_number : (last : ℕ) (vs : List PlaceView) (i j : ℕ) (u v : PlaceView) → RisesFrom last vs → slice_get vs i ≡ Some u → slice_get vs j ≡ Some v → u.number ≡ v.number → u ≡ v
one_number last [] i j u v h a b e = absurd (cc)
one_number last (w ∷ ws) zero zero u v h a b e =
    let first : w ≡ u = cc in
    let second : w ≡ v = cc in
    sym first ∙ second
one_number last (w ∷ ws) zero (suc j) u v h a b e =
    let same : w ≡ u = cc in
    let later = rises_at w.number ws j v h.1 b in
    let number = ap (λ (x : PlaceView). x.number) same in
    absurd (omega (arith, later, number, e))
one_number last (w ∷ ws) (suc i) zero u v h a b e =
    let same : w ≡ v = cc in
    let later = rises_at w.number ws i u h.1 a in
    let number = ap (λ (x : PlaceView). x.number) same in
    absurd (omega (arith, later, number, e))
one_number last (w ∷ ws) (suc i) (suc j) u v h a b e = one_number w.number ws i j u v h.1 a b e

-- ---- the best pick

module _ (views : List PlaceView) (modules : List Module) where
  -- there is none where none is useful
  pub no_best : ((i : ℕ) (w : PlaceView) → slice_get views i ≡ Some w → is_useful views modules w ≡ true → ⊥) → best_pick views modules ≡ None
  no_best none = of (best_pick views modules) refl where
    of : (o : Option PlaceView) → best_pick views modules ≡ o → best_pick views modules ≡ None
    of None e = e
    of (Some u) e = let best = best_is views modules u e in absurd (none best.there.0 u best.there.1 best.useful)

  -- it is a useful one that goes first of all that are
  pub the_best : (last i : ℕ) (v : PlaceView) → RisesFrom last views → slice_get views i ≡ Some v → is_useful views modules v ≡ true
      → ((j : ℕ) (w : PlaceView) → slice_get views j ≡ Some w → is_useful views modules w ≡ true → GoesFirst v w) → best_pick views modules ≡ Some v
  the_best last i v rises at useful first = of (best_pick views modules) refl where
    of : (o : Option PlaceView) → best_pick views modules ≡ o → best_pick views modules ≡ Some v
    of None e =
        let useless = all_at (λ (w : PlaceView). is_useful views modules w ≡ false) views i v (none_is views modules e) at in
        absurd (true≢false (sym useful ∙ useless))
    of (Some u) e =
        let best = best_is views modules u e in
        let before : GoesFirst u v = all_at (λ (w : PlaceView). is_useful views modules w ≡ true → GoesFirst u w) views i v best.first at useful in
        let number : u.number ≡ v.number = one_number_of u v before (first best.there.0 u best.there.1 best.useful) in
        e ∙ ap (λ (w : PlaceView). Some w) (one_number last views best.there.0 i u v rises best.there.1 at number)

-- ---- who is where

is_nothing : (o : Option PlaceView) → not (is_some o) ≡ true → o ≡ None
is_nothing None h = refl
is_nothing (Some v) h = absurd (true≢false (sym h))

-- a location is empty where nobody is found there
pub empty_is : (loc : LocId) (vs : List PlaceView) → is_empty loc vs ≡ not (is_some (holder loc vs))
empty_is loc [] = refl
empty_is loc (w ∷ ws) = of (is_same w.at loc) (empty_is loc ws) where
  of : (b : Bool) → is_empty loc ws ≡ not (is_some (holder loc ws)) → not (b || list_any (λ (v : PlaceView). is_same v.at loc) ws) ≡ not (is_some (cond b (Some w) (holder loc ws)))
  of true later = refl
  of false later = later

pub holder_none : (loc : LocId) (vs : List PlaceView) → is_empty loc vs ≡ true → holder loc vs ≡ None
holder_none loc vs empty = is_nothing (holder loc vs) (sym (empty_is loc vs) ∙ empty)

pub empty_holder : (loc : LocId) (vs : List PlaceView) → holder loc vs ≡ None → is_empty loc vs ≡ true
empty_holder loc vs none = empty_is loc vs ∙ ap (λ (o : Option PlaceView). not (is_some o)) none

pub taken_holder : (loc : LocId) (vs : List PlaceView) (v : PlaceView) → holder loc vs ≡ Some v → is_empty loc vs ≡ false
taken_holder loc vs v held = empty_is loc vs ∙ ap (λ (o : Option PlaceView). not (is_some o)) held

-- who is found at a location is among all, and is there
pub holder_there : (loc : LocId) (vs : List PlaceView) (v : PlaceView) → holder loc vs ≡ Some v → ((i : ℕ) × (slice_get vs i ≡ Some v)) × (v.at ≡ loc)
holder_there loc [] v e = absurd (cc)
holder_there loc (w ∷ ws) v e = of (is_same w.at loc) refl e (holder_there loc ws v) where
  of : (b : Bool) → is_same w.at loc ≡ b → cond b (Some w) (holder loc ws) ≡ Some v → (holder loc ws ≡ Some v → ((i : ℕ) × (slice_get ws i ≡ Some v)) × (v.at ≡ loc)) → ((i : ℕ) × (slice_get (w ∷ ws) i ≡ Some v)) × (v.at ≡ loc)
  of true q f later =
      let same : w ≡ v = cc in
      ((0, f), subst (λ (u : PlaceView). u.at ≡ loc) same (same_is w.at loc q))
  of false q f later = let found = later f in ((suc found.0.0, found.0.1), found.1)

-- no two are at one location
abbrev pub SitApart : List PlaceView → Type 0
SitApart [] = Unit {0}
SitApart (v ∷ vs) = (is_empty v.at vs ≡ true) × SitApart vs

-- then each is who is found where it is
pub holder_of : (vs : List PlaceView) (i : ℕ) (v : PlaceView) → SitApart vs → slice_get vs i ≡ Some v → holder v.at vs ≡ Some v
holder_of [] i v h e = absurd (cc)
holder_of (w ∷ ws) zero v h e =
    let same : w ≡ v = cc in
    subst (λ (u : PlaceView). holder u.at (w ∷ ws) ≡ Some u) same (rw (own_place w.at) refl)
holder_of (w ∷ ws) (suc i) v h e = of (is_same w.at v.at) refl (holder_of ws i v h.1 e) where
  of : (b : Bool) → is_same w.at v.at ≡ b → holder v.at ws ≡ Some v → cond b (Some w) (holder v.at ws) ≡ Some v
  of true q later =
      let empty : is_empty v.at ws ≡ true = subst (λ (l : LocId). is_empty l ws ≡ true) (same_is w.at v.at q) h.0 in
      let taken = holder_none v.at ws empty in
      absurd (cc)
  of false q later = later
