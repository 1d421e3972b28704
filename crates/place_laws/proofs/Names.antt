-- A number, a name and a place are each of one substrate, however it is looked for.
use Rattle.std.proofs.Common.{◌≡◌, ◌≤◌, ◌<◌, ℕ, ◌==◌, Bool, true, false, if◌then◌else◌, ◌&&◌, List, [], ◌∷◌, find, Option, Some, None, refl, sym, ◌∙◌, ap, subst, arith}
use Rattle.std.specs.List.{AllByRecursion}
use Rattle.std.proofs.lemmas.Bool.Decides.{Decides-eqb}
use Rattle.gem_ids.specs.Names.{name_in_slot}
use Rattle.gem_ids.specs.declared.numbers.LocId.{LocId}
use Rattle.gem_ids.specs.declared.numbers.LocId.TheVariants.{Slot, Aligner, Arm, Chamber}
use Rattle.gem_ids.specs.declared.numbers.PortNo.{PortNo}
use Rattle.gem_ids.specs.declared.numbers.SlotNo.{SlotNo}
use Rattle.carrier.specs.declared.carrier.Carrier.{Carrier}
use Rattle.carrier.specs.Carriers.{carrier_numbered}
use Rattle.shop_floor.proofs.Apart.{IsOnly, all_follows, found_only, has_its_name}
use Rattle.substrate.specs.Locations.{is_same}
use Rattle.substrate.specs.Places.{AreNumbered}
use Rattle.substrate.specs.declared.registered.Registered.{Registered}
use Rattle.floor_model.specs.declared.tracked.Substrate.{Substrate}
use Rattle.floor_model.specs.Floor.{ToolFloor, substrate_numbered, number_of}
use Rattle.place_laws.specs.Picture.{loc_of}
use Rattle.place_laws.specs.Standing.{IsCarried}
use Rattle.place_laws.specs.Sound.{Base}
use Rattle.place_laws.proofs.Holding.{one_of_slot, true_of_found}
use Rattle.place_laws.proofs.SlotNames.{slot_of_name}

-- what is so of each is so of one that is found
pub each_found : {A : Type 0} (P : A → Type 0) (test : A → Bool) (xs : List A) (x : A) → AllByRecursion P xs → find test xs ≡ Some x → P x
each_found P test [] x all e = absurd (cc)
each_found P test (y ∷ ys) x all e = of (test y) e (each_found P test ys x all.1) where
  of : (b : Bool) → (if b then Some y else find test ys) ≡ Some x → (find test ys ≡ Some x → P x) → P x
  of true f later = let same : y ≡ x = cc in subst P same all.0
  of false f later = later f

-- ---- places

-- a place by its ports and slots is one place
pub loc_one : (a b : LocId) → loc_of a ≡ loc_of b → a ≡ b
loc_one (Slot p k) (Slot q l) e =
    let port : p ≡ q = ap (λ (n : ℕ). record { 0 = n }) (let n : p.0 ≡ q.0 = cc in n) in
    let slot : k ≡ l = ap (λ (n : ℕ). record { 0 = n }) (let n : k.0 ≡ l.0 = cc in n) in
    ap (λ (x : PortNo). Slot x k) port ∙ ap (λ (x : SlotNo). Slot q x) slot
loc_one Aligner Aligner e = refl
loc_one Arm Arm e = refl
loc_one (Chamber c) (Chamber d) e = let n : c ≡ d = cc in ap (λ (x : ℕ). Chamber x) n
loc_one _ _ e = absurd (cc)

-- so its names are of the same place
pub same_loc : (a b : LocId) → loc_of a ≡ loc_of b → is_same a b ≡ true
same_loc a b e = subst (λ (x : LocId). is_same a x ≡ true) (loc_one a b e) (itself a) where
  itself : (l : LocId) → is_same l l ≡ true
  itself (Slot p k) = ap (λ (x : Bool). x && (k.0 == k.0)) ((Decides-eqb p.0 p.0).1 refl) ∙ (Decides-eqb k.0 k.0).1 refl
  itself (Chamber c) = (Decides-eqb c c).1 refl
  itself _ = refl

-- ---- numbers

-- the substrate of a number
abbrev pub numbered_in : ℕ → List Registered → Option Registered
numbered_in n rs = find (λ (r : Registered). r.number == n) rs

-- none has a number that is not past the last one before
pub none_before : (last given : ℕ) (rs : List Registered) (n : ℕ) → AreNumbered last given rs → n ≤ last → numbered_in n rs ≡ None
none_before last given [] n rising less = refl
none_before last given (r ∷ rs) n rising less = of (r.number == n) refl (none_before r.number given rs n rising.1) where
  of : (b : Bool) → (r.number == n) ≡ b → (n ≤ r.number → numbered_in n rs ≡ None) → (if b then Some r else numbered_in n rs) ≡ None
  of true e rest = let same = (Decides-eqb r.number n).0 e in let more = rising.0 in absurd (omega (arith, same, less, more))
  of false e rest = let more = rising.0 in rest (omega (arith, less, more))

-- each is found by its number
pub each_numbered : (last given : ℕ) (rs : List Registered) → AreNumbered last given rs → AllByRecursion (λ (r : Registered). (last < r.number) × (numbered_in r.number rs ≡ Some r)) rs
each_numbered last given [] rising = tt
each_numbered last given (r ∷ rs) rising = (
  (rising.0, ap (λ (b : Bool). if b then Some r else numbered_in r.number rs) ((Decides-eqb r.number r.number).1 refl)),
  all_follows (λ (x : Registered). (r.number < x.number) × (numbered_in x.number rs ≡ Some x)) (λ (x : Registered). (last < x.number) × (numbered_in x.number (r ∷ rs) ≡ Some x)) rs
      (λ x its. (let a = rising.0 in let b = its.0 in omega (arith, a, b), later x its.0 its.1 (r.number == x.number) refl)) (each_numbered r.number given rs rising.1),
) where
  later : (x : Registered) → r.number < x.number → numbered_in x.number rs ≡ Some x → (b : Bool) → (r.number == x.number) ≡ b → (if r.number == x.number then Some r else numbered_in x.number rs) ≡ Some x
  later x more its true e = let same = (Decides-eqb r.number x.number).0 e in absurd (omega (arith, same, more))
  later x more its false e = ap (λ (b : Bool). if b then Some r else numbered_in x.number rs) e ∙ its

-- what is found in any way is found by its number
pub found_by_number : (last given : ℕ) (test : Registered → Bool) (rs : List Registered) (r : Registered) → AreNumbered last given rs → find test rs ≡ Some r → numbered_in r.number rs ≡ Some r
found_by_number last given test rs r rising e = (each_found (λ (x : Registered). (last < x.number) × (numbered_in x.number rs ≡ Some x)) test rs r (each_numbered last given rs rising) e).1

-- ---- names

module _ (f : ToolFloor) (b : Base f) where
  -- carriers of one name are one
  pub one_carrier : (n m : ℕ) (c d : Carrier) → carrier_numbered n f.shop.carriers ≡ Some c → carrier_numbered m f.shop.carriers ≡ Some d → c.name ≡ d.name → c ≡ d
  one_carrier n m c d e g same =
      let only = found_only (λ (x : Carrier). x.number == m) f.shop.carriers d b.shop.apart g in
      true_of_found (λ (x : Carrier). x.number) n (IsOnly d) f.shop.carriers c only e (has_its_name d.name c same)

  -- substrates of one name are one
  pub one_of_name : (s t : Substrate) (n m : ℕ) → substrate_numbered n f.substrates ≡ Some s → substrate_numbered m f.substrates ≡ Some t → s.sub ≡ t.sub → s ≡ t
  one_of_name s t n m e g same =
      let x = true_of_found number_of n (IsCarried f.shop.carriers) f.substrates s b.carried e in
      let y = true_of_found number_of m (IsCarried f.shop.carriers) f.substrates t b.carried g in
      let names : name_in_slot x.0.name x.2.slot.0 ≡ name_in_slot y.0.name y.2.slot.0 = sym x.2.named ∙ same ∙ y.2.named in
      let parts = slot_of_name x.0.name y.0.name x.2.slot.0 y.2.slot.0 names in
      let one : x.0 ≡ y.0 = one_carrier s.carrier t.carrier x.0 y.0 x.1 y.1 parts.0 in
      let ports : Some x.2.port ≡ Some y.2.port = sym x.2.at ∙ ap (λ (c : Carrier). c.port) one ∙ y.2.at in
      let port : x.2.port ≡ y.2.port = cc in
      let slot : x.2.slot ≡ y.2.slot = ap (λ (k : ℕ). record { 0 = k }) parts.1 in
      one_of_slot n m f.substrates s t b.apart e g (x.2.own ∙ ap (λ (p : PortNo). Slot p x.2.slot) port ∙ ap (λ (k : SlotNo). Slot y.2.port k) slot ∙ sym y.2.own)
