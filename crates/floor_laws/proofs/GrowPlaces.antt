-- What becomes of the places of substrates at a row that moves nothing: they stay, and those of new numbers are slots.
use Rattle.std.proofs.Common.{◌≡◌, ◌⊎◌, ◌≤◌, ◌<◌, ℕ, zero, suc, ◌+◌, ◌==◌, nat_le, Bool, true, false, if◌then◌else◌, List, [], ◌∷◌, ◌++◌, find, Option, Some, None, option_map, inl, inr, refl, sym, ◌∙◌, ap, arith}
use Rattle.std.proofs.lemmas.Bool.Decides.{Decides-eqb, nat_tests}
use Rattle.gem_ids.specs.declared.numbers.LocId.{LocId}
use Rattle.gem_ids.specs.declared.numbers.LocId.TheVariants.{Slot}
use Rattle.gem_ids.specs.declared.numbers.PortNo.{PortNo}
use Rattle.gem_ids.specs.Names.{name_in_slot}
use Rattle.carrier.specs.declared.carrier.Carrier.{Carrier}
use Rattle.substrate.specs.Places.{PlaceMap, AreNumbered, ArePlaces, registered}
use Rattle.substrate.specs.declared.registered.Registered.{Registered}
use Rattle.substrate.proofs.Standing.{numbered_more}
use Rattle.floor_model.specs.Floor.{ToolFloor}
use Rattle.floor_model.specs.Substrates.{can_register, first_substrate, registers_at, registers_slot, registers_slots, registers_at_port, registers_found}
use Rattle.floor_moves.specs.Floor.{Loc, slot}
use Rattle.place_laws.specs.Picture.{loc_of, place_in}
use Rattle.place_laws.proofs.Appended.{not_last}
use Rattle.floor_laws.proofs.GrowFound.{none_past, place_given}
use Rattle.place_laws.proofs.Names.{numbered_in}

module _ (May : ℕ → Type 0) where
  -- a substrate in a slot of a port whose carrier may be taken away has no place any more
  pub record Gone (f g : ToolFloor) (n : ℕ) : Type 0 where
    pub port : ℕ
    pub slot_there : ℕ
    pub may : May port
    pub before : place_in f.places n ≡ Some (slot port slot_there)
    pub after : place_in g.places n ≡ None

  -- Each number that was given keeps its place, or has gone; and the place of each that was given since is a slot.
  pub record Grown (f g : ToolFloor) : Type 0 where
    pub given : f.places.given ≤ g.places.given
    pub places : (n : ℕ) → n ≤ f.places.given → (place_in g.places n ≡ place_in f.places n) ⊎ Gone f g n
    pub new : (n : ℕ) (l : Loc) → f.places.given < n → n ≤ g.places.given → place_in g.places n ≡ Some l → (p : ℕ) × (k : ℕ) × (l ≡ slot p k)

  -- so is the place of each that was not given, since what has a place was given
  pub grown_new : (f g : ToolFloor) → ArePlaces g.places → Grown f g → (n : ℕ) (l : Loc) → f.places.given < n → place_in g.places n ≡ Some l → (p : ℕ) × (k : ℕ) × (l ≡ slot p k)
  grown_new f g are grown n l past is = grown.new n l past (place_given g.places n l are.numbered is) is

  pub grown_same : (f g : ToolFloor) → g.places ≡ f.places → Grown f g
  grown_same f g same = record {
    given = let k = ap (λ (p : PlaceMap). p.given) same in omega (arith, k);
    places = λ n less. inl (ap (λ (p : PlaceMap). place_in p n) same);
    new = λ n l past within is. let k = ap (λ (p : PlaceMap). p.given) same in absurd (omega (arith, k, past, within));
  }

  pub grown_then : (f g h : ToolFloor) → Grown f g → Grown g h → Grown f h
  grown_then f g h first next = record {
    given = let a = first.given in let b = next.given in omega (arith, a, b);
    places = λ n less. of n (first.places n less) (next.places n (let a = first.given in omega (arith, a, less)));
    new = λ n l past within is. since n l past within is (nat_le n g.places.given) refl;
  } where
    none_some : {P : Type 0} (l : Loc) → None ≡ Some l → P
    none_some l e = absurd (cc)

    of : (n : ℕ) → (place_in g.places n ≡ place_in f.places n) ⊎ Gone f g n → (place_in h.places n ≡ place_in g.places n) ⊎ Gone g h n → (place_in h.places n ≡ place_in f.places n) ⊎ Gone f h n
    of n (inl a) (inl b) = inl (b ∙ a)
    of n (inl a) (inr b) = inr (record { port = b.port; slot_there = b.slot_there; may = b.may; before = sym a ∙ b.before; after = b.after })
    of n (inr a) (inl b) = inr (record { port = a.port; slot_there = a.slot_there; may = a.may; before = a.before; after = b ∙ a.after })
    of n (inr a) (inr b) = none_some _ (sym a.after ∙ b.before)

    -- it was given before the second, where it stays or goes, or in it
    since : (n : ℕ) (l : Loc) → f.places.given < n → n ≤ h.places.given → place_in h.places n ≡ Some l → (b : Bool) → nat_le n g.places.given ≡ b → (p : ℕ) × (k : ℕ) × (l ≡ slot p k)
    since n l past within is true e =
        let less : n ≤ g.places.given = grind (arith, nat_tests, e) in
        by (next.places n less) where
          by : (place_in h.places n ≡ place_in g.places n) ⊎ Gone g h n → (p : ℕ) × (k : ℕ) × (l ≡ slot p k)
          by (inl same) = first.new n l past (grind (arith, nat_tests, e)) (sym same ∙ is)
          by (inr gone) = none_some l (sym gone.after ∙ is)
    since n l past within is false e = next.new n l (grind (arith, nat_tests, e)) within is

  -- the places are those of another floor
  pub as_places : (f g h : ToolFloor) → h.places ≡ g.places → Grown f g → Grown f h
  as_places f g h same grown = grown_then f g h grown (grown_same g h same)

  -- ---- registration

  -- the numbers of places rise to the last that was given
  abbrev Rise : ToolFloor → Type 0
  Rise f = AreNumbered 0 f.places.given f.places.held

  module _ (sub : List ℕ) (carrier : ℕ) (port : PortNo) (k : ℕ) (f : ToolFloor) (rise : Rise f) where
    abbrev here : LocId
    here = Slot port (record { 0 = k })

    abbrev new_one : Registered
    new_one = record { sub = sub; number = f.places.given + 1; at = here }

    abbrev behind : ToolFloor
    behind = record f { places = registered sub here f.places; substrates = f.substrates ++ first_substrate (f.places.given + 1) sub carrier here ∷ [] }

    not_new : (n : ℕ) → n ≤ f.places.given → (b : Bool) → (f.places.given + 1 == n) ≡ b → (f.places.given + 1 == n) ≡ false
    not_new n less true e = let same = (Decides-eqb (f.places.given + 1) n).0 e in absurd (omega (arith, less, same))
    not_new n less false e = e

    found_last : (t : Registered → Bool) (rs : List Registered) (r : Registered) → find t rs ≡ None → t r ≡ true → find t (rs ++ r ∷ []) ≡ Some r
    found_last t [] r none is = ap (λ (b : Bool). if b then Some r else None) is
    found_last t (x ∷ xs) r none is = of (t x) none (found_last t xs r) where
      of : (b : Bool) → (if b then Some x else find t xs) ≡ None → (find t xs ≡ None → t r ≡ true → find t (xs ++ r ∷ []) ≡ Some r) → (if b then Some x else find t (xs ++ r ∷ [])) ≡ Some r
      of true e rest = absurd (cc)
      of false e rest = rest e is

    -- the new number has the slot
    its_slot : (n : ℕ) (l : Loc) → f.places.given < n → n ≤ f.places.given + 1 → place_in (registered sub here f.places) n ≡ Some l → (p : ℕ) × (q : ℕ) × (l ≡ slot p q)
    its_slot n l past within is =
        let same : f.places.given + 1 ≡ n = omega (arith, past, within) in
        let there : numbered_in n (f.places.held ++ new_one ∷ []) ≡ Some new_one = found_last (λ (r : Registered). r.number == n) f.places.held new_one (none_past 0 f.places.given f.places.held n rise past) ((Decides-eqb (f.places.given + 1) n).1 same) in
        let at : Some l ≡ Some (slot port.0 k) = sym is ∙ ap (option_map (λ (r : Registered). loc_of r.at)) there in
        (port.0, k, cc)

    one_grown : Grown f (registers_at sub carrier here f)
    one_grown = of (can_register sub here f.places) where
      of : (b : Bool) → Grown f (if b then behind else f)
      of true = record {
        given = omega arith;
        places = λ n less. inl (ap (option_map (λ (r : Registered). loc_of r.at)) (not_last (λ (r : Registered). r.number == n) f.places.held new_one (not_new n less (f.places.given + 1 == n) refl)));
        new = its_slot;
      }
      of false = grown_same f f refl

    one_rises : Rise (registers_at sub carrier here f)
    one_rises = of (can_register sub here f.places) where
      of : (b : Bool) → Rise (if b then behind else f)
      of true = numbered_more 0 f.places.given new_one f.places.held rise refl
      of false = rise

  slot_grown : (c : Carrier) (port : PortNo) (k code : ℕ) (f : ToolFloor) → Rise f → Grown f (registers_slot c port k code f) × Rise (registers_slot c port k code f)
  slot_grown c port k code f rise = of (code == 3) where
    of : (b : Bool) → Grown f (if b then registers_at (name_in_slot c.name k) c.number (Slot port (record { 0 = k })) f else f) × Rise (if b then registers_at (name_in_slot c.name k) c.number (Slot port (record { 0 = k })) f else f)
    of true = (one_grown (name_in_slot c.name k) c.number port k f rise, one_rises (name_in_slot c.name k) c.number port k f rise)
    of false = (grown_same f f refl, rise)

  slots_grown : (c : Carrier) (port : PortNo) (k count : ℕ) (slots : List ℕ) (f : ToolFloor) → Rise f → Grown f (registers_slots c port k count slots f)
  slots_grown c port k zero slots f rise = grown_same f f refl
  slots_grown c port k (suc count) [] f rise = grown_same f f refl
  slots_grown c port k (suc count) (code ∷ slots) f rise =
      let g = registers_slot c port k code f in
      let one = slot_grown c port k code f rise in
      grown_then f g (registers_slots c port (k + 1) count slots g) one.0 (slots_grown c port (k + 1) count slots g one.1)

  -- the substrates of a carrier are registered
  pub found_grown : (o : Option Carrier) (f : ToolFloor) → AreNumbered 0 f.places.given f.places.held → Grown f (registers_found o f)
  found_grown None f rise = grown_same f f refl
  found_grown (Some c) f rise = of c.port where
    of : (o : Option PortNo) → Grown f (registers_at_port o c f)
    of None = grown_same f f refl
    of (Some port) = slots_grown c port 1 25 c.map f rise
