-- The substrates of a carrier that goes have no place any more, in whatever order they are taken.
use Rattle.std.proofs.Common.{◌≡◌, ℕ, zero, suc, Bool, true, false, cond, not, ◌&&◌, if◌then◌else◌, List, [], ◌∷◌, drop, length, filter, Some, slice_get, refl, sym, ap, ◌∙◌}
use Rattle.substrate.specs.Places.{PlaceMap, has_name, removed}
use Rattle.substrate.specs.declared.registered.Registered.{Registered}
use Rattle.floor_model.specs.Substrates.{is_of, emptied, removed_of}
use Rattle.floor_model.specs.declared.tracked.Substrate.{Substrate}

-- ---- two that are filtered out

turned : (a b : Bool) → (a && b) ≡ (b && a)
turned true true = refl
turned true false = refl
turned false true = refl
turned false false = refl

module _ {X : Type 0} where
  filter_first : (f : X → Bool) (b : Bool) (x : X) (xs : List X) → filter f (cond b (x ∷ xs) xs) ≡ cond (b && f x) (x ∷ filter f xs) (filter f xs)
  filter_first f true x xs = refl
  filter_first f false x xs = refl

  filter_swap : (f g : X → Bool) (xs : List X) → filter f (filter g xs) ≡ filter g (filter f xs)
  filter_swap f g [] = refl
  filter_swap f g (x ∷ xs) =
      filter_first f (g x) x (filter g xs)
      ∙ ap (λ (b : Bool). cond b (x ∷ filter f (filter g xs)) (filter f (filter g xs))) (turned (g x) (f x))
      ∙ ap (λ (ys : List X). cond (f x && g x) (x ∷ ys) ys) (filter_swap f g xs)
      ∙ sym (filter_first g (f x) x (filter f xs))

-- ---- the substrates of a carrier

module _ (carrier : ℕ) where
  emptied_swap : (s t : Substrate) (p : PlaceMap) → emptied carrier (Some s) (emptied carrier (Some t) p) ≡ emptied carrier (Some t) (emptied carrier (Some s) p)
  emptied_swap s t p = of (is_of carrier s) (is_of carrier t) where
    of : (a b : Bool) → (if a then removed s.sub (if b then removed t.sub p else p) else (if b then removed t.sub p else p)) ≡ (if b then removed t.sub (if a then removed s.sub p else p) else (if a then removed s.sub p else p))
    of true true = ap (λ (rs : List Registered). record p { held = rs }) (filter_swap (λ r. not (has_name s.sub r)) (λ r. not (has_name t.sub r)) p.held)
    of true false = refl
    of false true = refl
    of false false = refl

  emptied_last : (ss : List Substrate) (s : Substrate) (p : PlaceMap) → emptied carrier (Some s) (removed_of carrier ss p) ≡ removed_of carrier ss (emptied carrier (Some s) p)
  emptied_last [] s p = refl
  emptied_last (t ∷ ss) s p = emptied_last ss s (emptied carrier (Some t) p) ∙ ap (λ (q : PlaceMap). removed_of carrier ss q) (emptied_swap s t p)

  -- the one before those that were taken
  pub emptied_before : (ss : List Substrate) (place : ℕ) (p : PlaceMap) → emptied carrier (slice_get ss place) (removed_of carrier (drop (suc place) ss) p) ≡ removed_of carrier (drop place ss) p
  emptied_before [] zero p = refl
  emptied_before [] (suc place) p = refl
  emptied_before (s ∷ ss) zero p = emptied_last ss s p
  emptied_before (s ∷ ss) (suc place) p = emptied_before ss place p

  -- none is taken yet
  pub emptied_none : (ss : List Substrate) (p : PlaceMap) → p ≡ removed_of carrier (drop (length ss) ss) p
  emptied_none [] p = refl
  emptied_none (s ∷ ss) p = emptied_none ss p
