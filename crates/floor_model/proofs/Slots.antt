-- Where a substrate is, by who is at its slot.
use Rattle.std.proofs.Common.{◌≡◌, ℕ, Bool, true, false, true≢false, ◌||◌, cond, List, [], ◌∷◌, find, Option, Some, None, option_map, bytes_eq, refl, sym, ap, subst, ◌∙◌}
use Rattle.gem_ids.specs.declared.numbers.LocId.{LocId}
use Rattle.substrate.specs.Locations.{is_work_place}
use Rattle.substrate.specs.Places.{name_of, PlaceMap, ArePlaces, has_name, substrate_named, is_known, stands_at, is_taken, substrate_at, is_there, are_named_apart, are_placed_apart}
use Rattle.substrate.specs.declared.registered.Registered.{Registered}
use Rattle.records.proofs.Apart.{has_it, first_apart, rest_apart}
use Rattle.substrate.proofs.Sites.{same_is}
use Rattle.records.proofs.Texts.{own_name}
use Rattle.records.proofs.Truth.{or_false, and_true, not_true}
use Rattle.floor_model.specs.declared.tracked.Substrate.{Substrate}
use Rattle.floor_model.specs.Substrates.{is_at_work, is_in_slot, is_outside}

-- who is at a place has this name
abbrev pub is_called : List ℕ → Option (List ℕ) → Bool
is_called sub None = false
is_called sub (Some name) = bytes_eq name sub

-- a name that isn't known is that of nobody at a place
not_called : (sub : List ℕ) (loc : LocId) (rs : List Registered) → is_known sub rs ≡ false → is_called sub (substrate_at loc rs) ≡ false
not_called sub loc [] unknown = refl
not_called sub loc (r ∷ rs) unknown =
    let parts = or_false (has_name sub r) (is_known sub rs) unknown in
    of (stands_at loc r) parts.0 (not_called sub loc rs parts.1)
  where
    of : (b : Bool) → has_name sub r ≡ false → is_called sub (substrate_at loc rs) ≡ false → is_called sub (option_map (λ (s : Registered). s.sub) (cond b (Some r) (find (stands_at loc) rs))) ≡ false
    of true here later = here
    of false here later = later

-- nobody of any name is at a place that isn't taken
not_there : (sub : List ℕ) (loc : LocId) (rs : List Registered) → is_taken loc rs ≡ false → is_there loc (substrate_named sub rs) ≡ false
not_there sub loc [] free = refl
not_there sub loc (r ∷ rs) free =
    let parts = or_false (stands_at loc r) (is_taken loc rs) free in
    of (has_name sub r) parts.0 (not_there sub loc rs parts.1)
  where
    of : (b : Bool) → stands_at loc r ≡ false → is_there loc (substrate_named sub rs) ≡ false → is_there loc (cond b (Some r) (substrate_named sub rs)) ≡ false
    of true here later = here
    of false here later = later

-- the substrate of a name is at a place exactly where who is there has the name
named_at : (sub : List ℕ) (loc : LocId) (rs : List Registered) → are_named_apart rs ≡ true → are_placed_apart rs ≡ true → is_there loc (substrate_named sub rs) ≡ is_called sub (substrate_at loc rs)
named_at sub loc [] named placed = refl
named_at sub loc (r ∷ rs) named placed =
    let parts = and_true _ (are_placed_apart rs) placed in
    of (has_name sub r) refl (stands_at loc r) refl (not_true (is_taken r.at rs) parts.0) (named_at sub loc rs (rest_apart name_of r rs named) parts.1)
  where
    of : (a : Bool) → has_name sub r ≡ a → (b : Bool) → stands_at loc r ≡ b → is_taken r.at rs ≡ false → is_there loc (substrate_named sub rs) ≡ is_called sub (substrate_at loc rs)
        → is_there loc (cond a (Some r) (substrate_named sub rs)) ≡ is_called sub (option_map (λ (s : Registered). s.sub) (cond b (Some r) (find (stands_at loc) rs)))
    of true name true place free later = place ∙ sym name
    of true name false place free later =
        let unknown : is_known sub rs ≡ false = subst (λ (n : List ℕ). is_known n rs ≡ false) (has_it name_of sub r name) (first_apart name_of r rs named) in
        place ∙ sym (not_called sub loc rs unknown)
    of false name true place free later =
        let there : is_taken loc rs ≡ false = subst (λ (l : LocId). is_taken l rs ≡ false) (same_is r.at loc place) free in
        not_there sub loc rs there ∙ sym name
    of false name false place free later = later

-- a substrate is in its slot exactly where who is there has its name
pub in_slot_is : (s : Substrate) (p : PlaceMap) → ArePlaces p → is_in_slot s p ≡ is_called s.sub (substrate_at s.slot p.held)
in_slot_is s p places = named_at s.sub s.slot p.held places.named_apart places.placed_apart

there_rests : (loc : LocId) (o : Option Registered) → is_work_place loc ≡ false → is_there loc o ≡ true → is_at_work o ≡ false
there_rests loc None rests there = refl
there_rests loc (Some r) rests there = ap is_work_place (same_is r.at loc there) ∙ rests

-- one that is in its slot is not outside
pub in_slot_rests : (s : Substrate) (p : PlaceMap) → is_work_place s.slot ≡ false → is_in_slot s p ≡ true → is_outside s p ≡ false
in_slot_rests s p rests there = there_rests s.slot (substrate_named s.sub p.held) rests there

-- ---- who is found at a place

-- who is found by its place is known by its name
found_known : (loc : LocId) (rs : List Registered) (r : Registered) → find (stands_at loc) rs ≡ Some r → is_known r.sub rs ≡ true
found_known loc [] r e = absurd (cc)
found_known loc (x ∷ xs) r e = of (stands_at loc x) e (found_known loc xs r) where
  either : (a b : Bool) → b ≡ true → (a || b) ≡ true
  either true b h = refl
  either false b h = h

  of : (b : Bool) → cond b (Some x) (find (stands_at loc) xs) ≡ Some r → (find (stands_at loc) xs ≡ Some r → is_known r.sub xs ≡ true) → (has_name r.sub x || is_known r.sub xs) ≡ true
  of true f later =
      let same : x ≡ r = cc in
      subst (λ (y : Registered). (has_name y.sub x || is_known y.sub xs) ≡ true) same (rw (own_name x.sub) refl)
  of false f later = either (has_name r.sub x) (is_known r.sub xs) (later f)

-- and is found by it
found_named : (loc : LocId) (rs : List Registered) (r : Registered) → are_named_apart rs ≡ true → find (stands_at loc) rs ≡ Some r → substrate_named r.sub rs ≡ Some r
found_named loc [] r apart e = absurd (cc)
found_named loc (x ∷ xs) r apart e = of (stands_at loc x) e (found_named loc xs r (rest_apart name_of x xs apart)) where
  behind : find (stands_at loc) xs ≡ Some r → (b : Bool) → has_name r.sub x ≡ b → substrate_named r.sub xs ≡ Some r → cond b (Some x) (substrate_named r.sub xs) ≡ Some r
  behind f true name later =
      let unknown : is_known r.sub xs ≡ false = subst (λ (n : List ℕ). is_known n xs ≡ false) (has_it name_of r.sub x name) (first_apart name_of x xs apart) in
      absurd (true≢false (sym (found_known loc xs r f) ∙ unknown))
  behind f false name later = later

  of : (b : Bool) → cond b (Some x) (find (stands_at loc) xs) ≡ Some r → (find (stands_at loc) xs ≡ Some r → substrate_named r.sub xs ≡ Some r) → cond (has_name r.sub x) (Some x) (substrate_named r.sub xs) ≡ Some r
  of true f later =
      let same : x ≡ r = cc in
      subst (λ (y : Registered). cond (has_name y.sub x) (Some x) (substrate_named y.sub xs) ≡ Some y) same (rw (own_name x.sub) refl)
  of false f later = behind f (has_name r.sub x) refl (later f)

-- the substrate of the name that is at a place is the one that is found there
pub named_there : (loc : LocId) (p : PlaceMap) (name : List ℕ) → ArePlaces p → substrate_at loc p.held ≡ Some name → substrate_named name p.held ≡ find (stands_at loc) p.held
named_there loc p name places e = of (find (stands_at loc) p.held) refl e where
  of : (o : Option Registered) → find (stands_at loc) p.held ≡ o → option_map (λ (s : Registered). s.sub) o ≡ Some name → substrate_named name p.held ≡ find (stands_at loc) p.held
  of None f g = absurd (cc)
  of (Some r) f g =
      let same : r.sub ≡ name = cc in
      subst (λ (n : List ℕ). substrate_named n p.held ≡ find (stands_at loc) p.held) same (found_named loc p.held r places.named_apart f ∙ sym f)

-- none is found where nobody is
pub none_there : (loc : LocId) (rs : List Registered) → substrate_at loc rs ≡ None → find (stands_at loc) rs ≡ None
none_there loc rs e = of (find (stands_at loc) rs) e where
  of : (o : Option Registered) → option_map (λ (s : Registered). s.sub) o ≡ None → o ≡ None
  of None f = refl
  of (Some r) f = absurd (cc)
