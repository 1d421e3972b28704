-- The places behind a removal of the substrates of a carrier.
use Rattle.std.proofs.Common.{◌≡◌, ℕ, Bool, true, false, not, ◌&&◌, ◌||◌, if◌then◌else◌, List, [], ◌∷◌, filter, Some, refl, sym, ◌∙◌, ap, arith}
use Rattle.std.specs.List.{AllByRecursion, list_any}
use Rattle.substrate.specs.Locations.{is_location}
use Rattle.substrate.specs.Places.{name_of, PlaceMap, ArePlaces, has_name as has_sub, removed}
use Rattle.substrate.specs.declared.registered.Registered.{Registered}
use Rattle.records.proofs.Apart.{apart_fewer as named_fewer, length_fewer}
use Rattle.substrate.proofs.Standing.{placed_fewer, all_fewer, numbered_fewer}
use Rattle.floor_model.specs.declared.tracked.Substrate.{Substrate}
use Rattle.floor_model.specs.Substrates.{is_of, emptied, removed_of}

-- two tests with one outcome leave the same
filter_same : {A : Type 0} (q r : A → Bool) (xs : List A) → AllByRecursion (λ (x : A). q x ≡ r x) xs → filter q xs ≡ filter r xs
filter_same q r [] same = refl
filter_same q r (x ∷ xs) same = ap (λ (b : Bool). if b then x ∷ filter q xs else filter q xs) same.0 ∙ ap (λ (ys : List _). if r x then x ∷ ys else ys) (filter_same q r xs same.1)

-- of those left by one test, those left by another
filter_twice : {A : Type 0} (q r both : A → Bool) (xs : List A) → ((x : A) → both x ≡ (r x && q x)) → filter q (filter r xs) ≡ filter both xs
filter_twice q r both [] is = refl
filter_twice q r both (x ∷ xs) is = of (r x) refl (filter_twice q r both xs is) where
  of : (b : Bool) → r x ≡ b → filter q (filter r xs) ≡ filter both xs → filter q (if b then x ∷ filter r xs else filter r xs) ≡ (if both x then x ∷ filter both xs else filter both xs)
  of true t rest =
      let same : both x ≡ q x = is x ∙ ap (λ (b : Bool). b && q x) t in
      ap (λ (ys : List _). if q x then x ∷ ys else ys) rest ∙ ap (λ (b : Bool). if b then x ∷ filter both xs else filter both xs) (sym same)
  of false t rest =
      let same : both x ≡ false = is x ∙ ap (λ (b : Bool). b && q x) t in
      rest ∙ ap (λ (b : Bool). if b then x ∷ filter both xs else filter both xs) (sym same)

-- a test that all pass leaves all
pub filter_all : {A : Type 0} (q : A → Bool) (xs : List A) → AllByRecursion (λ (x : A). q x ≡ true) xs → filter q xs ≡ xs
filter_all q [] all = refl
filter_all q (x ∷ xs) all = ap (λ (b : Bool). if b then x ∷ filter q xs else filter q xs) all.0 ∙ ap (λ (ys : List _). x ∷ ys) (filter_all q xs all.1)

-- what holds of each place holds of all
all_true : (rs : List Registered) → AllByRecursion (λ (r : Registered). true ≡ true) rs
all_true [] = tt
all_true (r ∷ rs) = (refl, all_true rs)

-- one of a name is removed
pub removed_places : (sub : List ℕ) (p : PlaceMap) → ArePlaces p → ArePlaces (removed sub p)
removed_places sub p places = record {
  named_apart = named_fewer name_of (λ (r : Registered). not (has_sub sub r)) p.held places.named_apart;
  placed_apart = placed_fewer sub p.held places.placed_apart;
  within = all_fewer sub (λ (r : Registered). is_location p.ports p.chambers r.at) p.held places.within;
  numbered = numbered_fewer sub 0 p.given p.held places.numbered;
  few = (let less = length_fewer (λ (r : Registered). not (has_sub sub r)) p.held in let most = places.few in omega (arith, less, most));
}

module _ (k : ℕ) where
  -- none of these substrates of the carrier has the name of what is registered
  abbrev pub stays : List Substrate → Registered → Bool
  stays ss r = not (list_any (λ (s : Substrate). is_of k s && has_sub s.sub r) ss)

  either : (a b : Bool) → not (a || b) ≡ (not a && not b)
  either true b = refl
  either false b = refl

  -- what has a place behind the removal
  pub removed_held : (ss : List Substrate) (p : PlaceMap) → (removed_of k ss p).held ≡ filter (stays ss) p.held
  removed_held [] p = sym (filter_all (stays []) p.held (all_true p.held))
  removed_held (s ∷ ss) p = removed_held ss (emptied k (Some s) p) ∙ of (is_of k s) refl where
    of : (b : Bool) → is_of k s ≡ b → filter (stays ss) (if b then removed s.sub p else p).held ≡ filter (stays (s ∷ ss)) p.held
    of true is = filter_twice (stays ss) (λ (r : Registered). not (has_sub s.sub r)) (stays (s ∷ ss)) p.held (λ r. ap (λ (b : Bool). not ((b && has_sub s.sub r) || list_any (λ (t : Substrate). is_of k t && has_sub t.sub r) ss)) is ∙ either (has_sub s.sub r) _)
    of false is = filter_same (stays ss) (stays (s ∷ ss)) p.held (each p.held) where
      each : (rs : List Registered) → AllByRecursion (λ (r : Registered). stays ss r ≡ stays (s ∷ ss) r) rs
      each [] = tt
      each (r ∷ rs) = (ap (λ (b : Bool). not ((b && has_sub s.sub r) || list_any (λ (t : Substrate). is_of k t && has_sub t.sub r) ss)) (sym is), each rs)

  -- what stays of each removal stays
  kept_by : {X : Type 0} (view : PlaceMap → X) → ((sub : List ℕ) (p : PlaceMap) → view (removed sub p) ≡ view p) → (ss : List Substrate) (p : PlaceMap) → view (removed_of k ss p) ≡ view p
  kept_by view same [] p = refl
  kept_by view same (s ∷ ss) p = kept_by view same ss (emptied k (Some s) p) ∙ of (is_of k s) where
    of : (b : Bool) → view (if b then removed s.sub p else p) ≡ view p
    of true = same s.sub p
    of false = refl

  -- the ports
  pub removed_ports : (ss : List Substrate) (p : PlaceMap) → (removed_of k ss p).ports ≡ p.ports
  removed_ports ss p = kept_by (λ (q : PlaceMap). q.ports) (λ sub q. refl) ss p

  -- the chambers
  pub removed_chambers : (ss : List Substrate) (p : PlaceMap) → (removed_of k ss p).chambers ≡ p.chambers
  removed_chambers ss p = kept_by (λ (q : PlaceMap). q.chambers) (λ sub q. refl) ss p

  -- and the number that was given last
  pub removed_given : (ss : List Substrate) (p : PlaceMap) → (removed_of k ss p).given ≡ p.given
  removed_given ss p = kept_by (λ (q : PlaceMap). q.given) (λ sub q. refl) ss p

  -- they are places still
  pub places_fewer : (ss : List Substrate) (p : PlaceMap) → ArePlaces p → ArePlaces (removed_of k ss p)
  places_fewer [] p places = places
  places_fewer (s ∷ ss) p places = places_fewer ss (emptied k (Some s) p) (of (is_of k s)) where
    of : (b : Bool) → ArePlaces (if b then removed s.sub p else p)
    of true = removed_places s.sub p places
    of false = places
