-- Substrates by their names and by their numbers: who has a place, and whom a name is of.
use Rattle.std.proofs.Common.{◌≡◌, ◌<◌, ℕ, ◌==◌, Bool, true, false, ◌||◌, if◌then◌else◌, List, [], ◌∷◌, find, Option, Some, None, option_map, refl, sym, ◌∙◌, ap, arith}
use Rattle.std.proofs.lemmas.Bool.Decides.{Decides-eqb}
use Rattle.gem_ids.specs.declared.numbers.LocId.{LocId}
use Rattle.shop_floor.proofs.Apart.{found_passes}
use Rattle.substrate.specs.Places.{PlaceMap, ArePlaces, AreNumbered, has_name, substrate_named, stands_at, is_taken}
use Rattle.substrate.specs.declared.registered.Registered.{Registered}
use Rattle.substrate.proofs.Sites.{same_is}
use Rattle.records.proofs.Texts.{same_name}
use Rattle.floor_model.specs.declared.tracked.Substrate.{Substrate}
use Rattle.floor_model.specs.Floor.{ToolFloor, substrate_numbered, number_of}
use Rattle.floor_moves.specs.Floor.{Loc}
use Rattle.place_laws.specs.Picture.{loc_of, place_in, numbered, number_or_none}
use Rattle.place_laws.specs.Sound.{IsOfKept, Base}
use Rattle.place_laws.proofs.Holding.{found_number, true_of_found}
use Rattle.picture_laws.proofs.Moving.{among}
use Rattle.place_laws.proofs.Names.{none_before, found_by_number, one_of_name}

-- ---- places

-- where somebody is at a place, it is the place of a number
pub taken_tells : (to : LocId) (last given : ℕ) (rs : List Registered) → AreNumbered last given rs → is_taken to rs ≡ true → (k : ℕ) × (last < k) × (among rs k ≡ Some (loc_of to))
taken_tells to last given [] rising e = absurd (cc)
taken_tells to last given (x ∷ xs) rising e = of (stands_at to x) refl e (taken_tells to x.number given xs rising.1) where
  head : (b : Bool) → b ≡ true → option_map (λ (r : Registered). loc_of r.at) (if b then Some x else find (λ (r : Registered). r.number == x.number) xs) ≡ Some (loc_of x.at)
  head true q = refl
  head false q = absurd (cc)

  behind : (k : ℕ) → x.number < k → among xs k ≡ Some (loc_of to) → (b : Bool) → (x.number == k) ≡ b → option_map (λ (r : Registered). loc_of r.at) (if b then Some x else find (λ (r : Registered). r.number == k) xs) ≡ Some (loc_of to)
  behind k less there true q = let same = (Decides-eqb x.number k).0 q in absurd (omega (arith, less, same))
  behind k less there false q = there

  of : (b : Bool) → stands_at to x ≡ b → (b || is_taken to xs) ≡ true → (is_taken to xs ≡ true → (k : ℕ) × (x.number < k) × (among xs k ≡ Some (loc_of to))) → (k : ℕ) × (last < k) × (among (x ∷ xs) k ≡ Some (loc_of to))
  of true q f rest = (x.number, rising.0, head (x.number == x.number) ((Decides-eqb x.number x.number).1 refl) ∙ ap (λ (l : LocId). Some (loc_of l)) (same_is x.at to q))
  of false q f rest =
      let old = rest f in
      let more = rising.0 in
      let past_it = old.1 in
      (old.0, omega (arith, more, past_it), behind old.0 old.1 old.2 (x.number == old.0) refl)

-- a place by number is that of the substrate of the name
pub named_place : (p : PlaceMap) → ArePlaces p → (sub : List ℕ) (l : Loc) → place_in p (numbered sub p) ≡ Some l → (r : Registered) × (substrate_named sub p.held ≡ Some r) × (loc_of r.at ≡ l)
named_place p places sub l e = of (substrate_named sub p.held) refl e where
  of : (o : Option Registered) → substrate_named sub p.held ≡ o → place_in p (number_or_none (option_map (λ (r : Registered). r.number) o)) ≡ Some l → (r : Registered) × (substrate_named sub p.held ≡ Some r) × (loc_of r.at ≡ l)
  of None q f = absurd (let none = ap (option_map (λ (r : Registered). loc_of r.at)) (none_before 0 p.given p.held 0 places.numbered (omega arith)) in let clash : None ≡ Some l = sym none ∙ f in cc)
  of (Some r) q f =
      let found = ap (option_map (λ (r : Registered). loc_of r.at)) (found_by_number 0 p.given (has_name sub) p.held r places.numbered q) in
      let same : Some (loc_of r.at) ≡ Some l = sym found ∙ f in
      (r, q, (let is : loc_of r.at ≡ l = cc in is))

-- the number of a name that has a place
pub number_there : (p : PlaceMap) (sub : List ℕ) (r : Registered) → substrate_named sub p.held ≡ Some r → numbered sub p ≡ r.number
number_there p sub r e = ap (λ (o : Option Registered). number_or_none (option_map (λ (r : Registered). r.number) o)) e

-- ---- substrates

module _ (f : ToolFloor) (b : Base f) where
  -- what has a place is of a substrate that is kept
  pub named_kept : (sub : List ℕ) (r : Registered) → substrate_named sub f.places.held ≡ Some r → IsOfKept f.substrates r
  named_kept sub r e = true_of_found (λ (x : Registered). x.number) r.number (IsOfKept f.substrates) f.places.held r b.held (found_by_number 0 f.places.given (has_name sub) f.places.held r b.places.numbered e)

  -- it has the name
  pub has_the_name : (sub : List ℕ) (r : Registered) → substrate_named sub f.places.held ≡ Some r → r.sub ≡ sub
  has_the_name sub r e = same_name r.sub sub (found_passes (has_name sub) f.places.held r e)

  -- the name that a place of the number has is that of the substrate
  pub name_is : (n : ℕ) (s : Substrate) (sub : List ℕ) (r : Registered) → substrate_numbered n f.substrates ≡ Some s → substrate_named sub f.places.held ≡ Some r → r.number ≡ n → s.sub ≡ sub
  name_is n s sub r e g same =
      let k = named_kept sub r g in
      let one : Some k.0 ≡ Some s = sym k.1 ∙ ap (λ (i : ℕ). substrate_numbered i f.substrates) same ∙ e in
      let is : k.0 ≡ s = cc in
      sym (ap (λ (x : Substrate). x.sub) is) ∙ k.2 ∙ has_the_name sub r g

  -- the place of the name of a substrate has its number
  pub number_is : (n : ℕ) (s : Substrate) (r : Registered) → substrate_numbered n f.substrates ≡ Some s → substrate_named s.sub f.places.held ≡ Some r → r.number ≡ n
  number_is n s r e g =
      let k = named_kept s.sub r g in
      let one : k.0 ≡ s = one_of_name f b k.0 s r.number n k.1 e (k.2 ∙ has_the_name s.sub r g) in
      sym (found_number number_of r.number f.substrates k.0 k.1) ∙ ap (λ (x : Substrate). x.number) one ∙ found_number number_of n f.substrates s e

  -- the place by number of one that has a place by name
  pub place_is : (sub : List ℕ) (r : Registered) → substrate_named sub f.places.held ≡ Some r → place_in f.places r.number ≡ Some (loc_of r.at)
  place_is sub r e = ap (option_map (λ (r : Registered). loc_of r.at)) (found_by_number 0 f.places.given (has_name sub) f.places.held r b.places.numbered e)
