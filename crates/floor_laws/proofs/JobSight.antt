-- What is said of a substrate by its name is said of it by its number.
use Rattle.std.proofs.Common.{◌≡◌, ℕ, zero, suc, ◌==◌, Bool, true, false, not, ◌||◌, if◌then◌else◌, List, [], ◌∷◌, find, map, Option, Some, None, option_map, is_some, refl, sym, ◌∙◌, ap, subst}
use Rattle.std.specs.List.{AllByRecursion, list_any}
use Rattle.std.proofs.lemmas.Bool.{true≢false}
use Rattle.std.proofs.lemmas.Bool.Decides.{Decides-eqb}
use Rattle.std.proofs.lemmas.Slice.Eq.{bytes_eq-Decides}
use Rattle.gem_tables.specs.Table.{is_one_of}
use Rattle.gem_ids.specs.declared.numbers.LocId.{LocId}
use Rattle.gem_ids.specs.declared.numbers.LocId.TheVariants.{Slot, Aligner, Arm, Chamber}
use Rattle.robot_moves.specs.declared.module.Module.{Module as ToolModule}
use Rattle.robot_moves.specs.Modules.{module_at}
use Rattle.shop_floor.proofs.Apart.{all_follows}
use Rattle.substrate.specs.Locations.{is_same, is_work_place}
use Rattle.substrate.specs.Places.{has_name, substrate_named, is_there}
use Rattle.substrate.specs.declared.registered.Registered.{Registered}
use Rattle.floor_model.specs.declared.tracked.Substrate.{Substrate}
use Rattle.floor_model.specs.Floor.{ToolFloor, substrate_numbered, number_of}
use Rattle.floor_model.specs.Substrates.{is_at_work, is_outside, is_in_slot, is_removed}
use Rattle.floor_moves.specs.Floor as law
use Rattle.floor_moves.specs.Floor.{Loc, slot, own}
use Rattle.place_laws.specs.Picture.{picture, loc_of}
use Rattle.place_laws.specs.Standing.{IsCarried}
use Rattle.place_laws.specs.Sound.{IsOfKept, Base}
use Rattle.place_laws.proofs.Holding.{found_number, found_among, true_of_found, own_place}
use Rattle.place_laws.proofs.Names.{one_of_name, same_loc}
use Rattle.substrate.proofs.Sites.{same_is}
use Rattle.std.proofs.Math.Bool.{or-false}

-- ---- lists

-- two that are found alike are one
pub some_same : {A : Type 0} (x y : A) → Some x ≡ Some y → x ≡ y
some_same x y e = cc

-- none is no one
pub none_some : {A P : Type 0} (x : A) → None ≡ Some x → P
none_some x e = absurd (cc)

-- tests that agree on each find the same
pub find_alike : {A : Type 0} (t u : A → Bool) (xs : List A) → AllByRecursion (λ x. t x ≡ u x) xs → find t xs ≡ find u xs
find_alike t u [] all = refl
find_alike t u (x ∷ xs) all = ap (λ b. if b then Some x else find t xs) all.0 ∙ ap (λ o. if u x then Some x else o) (find_alike t u xs all.1)

-- a module that passes a test is at a number
module _ (t : ToolModule → Bool) where
  -- where one at a number passes, some do
  pub any_at : (xs : List ToolModule) (m : ℕ) (x : ToolModule) → module_at m xs ≡ Some x → t x ≡ true → list_any t xs ≡ true
  any_at xs zero x e is = none_some x e
  any_at [] (suc zero) x e is = none_some x e
  any_at [] (suc (suc k)) x e is = none_some x e
  any_at (y ∷ ys) (suc zero) x e is = let same = some_same y x e in ap (λ b. b || list_any t ys) (ap t same ∙ is)
  any_at (y ∷ ys) (suc (suc k)) x e is = of (t y) (any_at ys (suc k) x e is) where
    of : (b : Bool) → list_any t ys ≡ true → (b || list_any t ys) ≡ true
    of true r = refl
    of false r = r

  -- where some pass, one at a number does
  pub any_there : (xs : List ToolModule) → list_any t xs ≡ true → (m : ℕ) × (x : ToolModule) × (module_at m xs ≡ Some x) × (t x ≡ true)
  any_there [] e = absurd (true≢false (sym e))
  any_there (y ∷ ys) e = of (t y) refl e (any_there ys) where
    later : (m : ℕ) (x : ToolModule) → module_at m ys ≡ Some x → t x ≡ true → (m : ℕ) × (x : ToolModule) × (module_at m (y ∷ ys) ≡ Some x) × (t x ≡ true)
    later zero x there is = none_some x there
    later (suc k) x there is = (suc (suc k), x, there, is)

    of : (b : Bool) → t y ≡ b → (b || list_any t ys) ≡ true → (list_any t ys ≡ true → (m : ℕ) × (x : ToolModule) × (module_at m ys ≡ Some x) × (t x ≡ true)) → (m : ℕ) × (x : ToolModule) × (module_at m (y ∷ ys) ≡ Some x) × (t x ≡ true)
    of true is e rest = (1, y, refl, is)
    of false is e rest = let r = rest e in later r.0 r.1 r.2 r.3

-- ---- the substrate of a number

module _ (f : ToolFloor) (b : Base f) (n : ℕ) (s : Substrate) (found : substrate_numbered n f.substrates ≡ Some s) where
  -- it has the number
  pub number_is : s.number ≡ n
  number_is = found_number number_of n f.substrates s found

  -- the number is one of those that are kept
  pub kept_here : is_one_of (map number_of f.substrates) n ≡ true
  kept_here = found_among number_of n f.substrates s found

  -- what has a place has its name where it has its number
  same_test : (r : Registered) → IsOfKept f.substrates r → (r.number == n) ≡ has_name s.sub r
  same_test r k = by (r.number == n) refl (has_name s.sub r) refl where
    by : (x : Bool) → (r.number == n) ≡ x → (y : Bool) → has_name s.sub r ≡ y → x ≡ y
    by true p true q = refl
    by false p false q = refl
    by false p true q =
        let name : r.sub ≡ s.sub = (bytes_eq-Decides r.sub s.sub).0 q in
        let one : k.0 ≡ s = one_of_name f b k.0 s r.number n k.1 found (k.2 ∙ name) in
        let number : r.number ≡ n = sym (found_number number_of r.number f.substrates k.0 k.1) ∙ ap number_of one ∙ number_is in
        absurd (true≢false (sym ((Decides-eqb r.number n).1 number) ∙ p))
    by true p false q =
        let number : r.number ≡ n = (Decides-eqb r.number n).0 p in
        let there : substrate_numbered n f.substrates ≡ Some k.0 = subst (λ (m : ℕ). substrate_numbered m f.substrates ≡ Some k.0) number k.1 in
        let one : s ≡ k.0 = some_same s k.0 (sym found ∙ there) in
        let name : r.sub ≡ s.sub = sym k.2 ∙ ap (λ (x : Substrate). x.sub) (sym one) in
        absurd (true≢false (sym ((bytes_eq-Decides r.sub s.sub).1 name) ∙ q))

  -- by its number it is found where it is by its name
  pub found_alike : find (λ (r : Registered). r.number == n) f.places.held ≡ substrate_named s.sub f.places.held
  found_alike = find_alike (λ (r : Registered). r.number == n) (has_name s.sub) f.places.held (all_follows (IsOfKept f.substrates) (λ (r : Registered). (r.number == n) ≡ has_name s.sub r) f.places.held same_test b.held)

  -- its place
  pub place_is : (picture f).place_of n ≡ option_map (λ (r : Registered). loc_of r.at) (substrate_named s.sub f.places.held)
  place_is = ap (option_map (λ (r : Registered). loc_of r.at)) found_alike

  -- it is outside
  pub outside_same : is_outside s f.places ≡ law.is_outside ((picture f).place_of n)
  outside_same = of (substrate_named s.sub f.places.held) ∙ ap law.is_outside (sym place_is) where
    at_place : (l : LocId) → is_work_place l ≡ law.is_outside (Some (loc_of l))
    at_place (Slot p k) = refl
    at_place Aligner = refl
    at_place Arm = refl
    at_place (Chamber c) = refl

    of : (o : Option Registered) → is_at_work o ≡ law.is_outside (option_map (λ (r : Registered). loc_of r.at) o)
    of None = refl
    of (Some r) = at_place r.at

  -- and one without a place is removed
  pub removed_from : (picture f).place_of n ≡ None → is_removed s f.places ≡ true
  removed_from e = of (substrate_named s.sub f.places.held) refl where
    of : (o : Option Registered) → substrate_named s.sub f.places.held ≡ o → is_removed s f.places ≡ true
    of None q = rw q refl
    of (Some r) q = none_some (loc_of r.at) (sym e ∙ place_is ∙ ap (option_map (λ (r : Registered). loc_of r.at)) q)

  -- its carrier, and its own slot
  its_own : IsCarried f.shop.carriers s
  its_own = true_of_found number_of n (IsCarried f.shop.carriers) f.substrates s b.carried found

  -- its own place is its slot
  pub own_is : own n (picture f) ≡ loc_of s.slot
  own_is = own_place f n (record { one = s; found = found; its = its_own.0; known = its_own.1; of = its_own.2 })

  -- and one there is in its slot
  pub in_slot_from : (picture f).place_of n ≡ Some (own n (picture f)) → is_in_slot s f.places ≡ true
  in_slot_from e = of (substrate_named s.sub f.places.held) (sym place_is ∙ e ∙ ap (λ (l : Loc). Some l) (own_is ∙ ap loc_of its_own.2.own)) where
    of : (o : Option Registered) → option_map (λ (r : Registered). loc_of r.at) o ≡ Some (loc_of (Slot its_own.2.port its_own.2.slot)) → is_there s.slot o ≡ true
    of None e = absurd (cc)
    of (Some r) e = ap (is_same r.at) its_own.2.own ∙ same_loc r.at (Slot its_own.2.port its_own.2.slot) (some_same _ _ e)

  -- who is in its slot or removed isn't outside
  pub back_tells : (is_in_slot s f.places || is_removed s f.places) ≡ true → law.is_outside ((picture f).place_of n) ≡ false
  back_tells e = sym outside_same ∙ of (substrate_named s.sub f.places.held) refl where
    of : (o : Option Registered) → substrate_named s.sub f.places.held ≡ o → is_outside s f.places ≡ false
    of None q = rw q refl
    of (Some r) q =
        let there : is_there s.slot (Some r) ≡ true = sym (or-false (is_there s.slot (Some r))) ∙ (sym (ap (λ (o : Option Registered). is_there s.slot o || not (is_some o)) q) ∙ e) in
        ap is_at_work q ∙ ap is_work_place (same_is r.at (Slot its_own.2.port its_own.2.slot) (sym (ap (is_same r.at) its_own.2.own) ∙ there))
