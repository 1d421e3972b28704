-- What so many slots of a carrier make of the floor, one after the other.
use Rattle.std.proofs.Common.{◌≡◌, ◌≤◌, ◌<◌, ℕ, zero, suc, ◌+◌, ◌==◌, Bool, true, false, if◌then◌else◌, List, [], ◌∷◌, ◌++◌, Some, slice_get, refl, sym, ◌∙◌, subst, arith}
use Rattle.std.specs.List.{list_any}
use Rattle.std.proofs.lemmas.Bool.Decides.{Decides-eqb}
use Rattle.std.proofs.lemmas.Slice.Eq.{bytes_eq-Decides}
use Rattle.gem_ids.specs.declared.numbers.LocId.TheVariants.{Slot}
use Rattle.gem_ids.specs.declared.numbers.PortNo.{PortNo}
use Rattle.gem_ids.specs.declared.numbers.SlotNo.{SlotNo}
use Rattle.gem_ids.specs.Names.{name_in_slot}
use Rattle.carrier.specs.declared.carrier.Carrier.{Carrier}
use Rattle.carrier.specs.Record.{is_map_verified}
use Rattle.carrier.specs.Carriers.{carrier_numbered}
use Rattle.shop_floor.specs.Floor.{Floor}
use Rattle.shop_floor.specs.Valid.{IsFloor}
use Rattle.substrate.specs.Places.{registered}
use Rattle.substrate.proofs.Sites.{own_place}
use Rattle.floor_model.specs.declared.tracked.Substrate.{Substrate}
use Rattle.floor_model.specs.Floor.{ToolFloor}
use Rattle.floor_model.specs.Substrates.{can_register, first_substrate, registers_at, registers_slot, registers_slots}
use Rattle.place_laws.specs.Standing.{is_that_of}
use Rattle.floor_laws.proofs.RegMore.{any_more, any_last, own_number}
use Rattle.floor_laws.proofs.RegSlots.{Filling, higher, can, filled_one}

-- the carrier whose substrates are registered, as it is before its map is VERIFIED, and then; its port
module _ (s : Floor) (valid : IsFloor s) (c e : Carrier) (port : PortNo) (found : carrier_numbered c.number s.carriers ≡ Some e) (present : e.present ≡ true) (verified : is_map_verified e.states.map ≡ true) (at : e.port ≡ Some port) (named : e.name ≡ c.name) where
  -- what holds before the slot of a number
  abbrev Fills : ℕ → ToolFloor → Type 0
  Fills k f = Filling s valid c e port found present verified at named k f

  -- the substrate of a slot
  abbrev its_new : SlotNo → ToolFloor → Substrate
  its_new slot f = first_substrate (f.places.given + 1) (name_in_slot c.name slot.0) c.number (Slot port slot)

  -- the floor with it
  abbrev with_new : SlotNo → ToolFloor → ToolFloor
  with_new slot f = record f {
    places = registered (name_in_slot c.name slot.0) (Slot port slot) f.places;
    substrates = f.substrates ++ its_new slot f ∷ [];
  }

  -- what so many slots with their codes make of a floor, from the slot of a number on
  pub record Filled (k count : ℕ) (slots : List ℕ) (f g : ToolFloor) : Type 0 where
    pub filling : Filling s valid c e port found present verified at named (k + count) g
    pub grows : (test : Substrate → Bool) → list_any test f.substrates ≡ true → list_any test g.substrates ≡ true
    pub all : (i : ℕ) → i < count → slice_get slots i ≡ Some 3 → list_any (is_that_of c.number (name_in_slot c.name (k + i)) (Slot port (record { 0 = k + i }))) g.substrates ≡ true

  its_own : (slot : SlotNo) (f : ToolFloor) → is_that_of c.number (name_in_slot c.name slot.0) (Slot port slot) (its_new slot f) ≡ true
  its_own slot f = rw (own_number c.number, own_place (Slot port slot), (bytes_eq-Decides (name_in_slot c.name slot.0) (name_in_slot c.name slot.0)).1 refl) refl

  -- one slot
  slot_filled : (slot : SlotNo) (code : ℕ) (f : ToolFloor) → 1 ≤ slot.0 → slot.0 ≤ 25 → Fills slot.0 f → Filled slot.0 1 (code ∷ []) f (registers_slot c port slot.0 code f)
  slot_filled slot code f first last fill = by_code (code == 3) refl where
    by_can : (b : Bool) → can_register (name_in_slot c.name slot.0) (Slot port slot) f.places ≡ b → Filled slot.0 1 (code ∷ []) f (if b then with_new slot f else f)
    by_can true can_be = record {
      filling = filled_one s valid c e port found present verified at named slot f first last fill;
      grows = λ test is. any_more test f.substrates (its_new slot f) is;
      all = λ i less code_is. of i less;
    } where
      of : (i : ℕ) → i < 1 → list_any (is_that_of c.number (name_in_slot c.name (slot.0 + i)) (Slot port (record { 0 = slot.0 + i }))) (f.substrates ++ its_new slot f ∷ []) ≡ true
      of i less =
          let same : slot.0 ≡ slot.0 + i = omega (arith, less) in
          subst (λ (n : ℕ). list_any (is_that_of c.number (name_in_slot c.name n) (Slot port (record { 0 = n }))) (f.substrates ++ its_new slot f ∷ []) ≡ true) same
          (any_last (is_that_of c.number (name_in_slot c.name slot.0) (Slot port slot)) f.substrates (its_new slot f) (its_own slot f))
    by_can false cannot = absurd (let may = can s valid c e port found present verified at named slot f first last fill in let clash : true ≡ false = sym may ∙ cannot in cc)

    by_code : (b : Bool) → (code == 3) ≡ b → Filled slot.0 1 (code ∷ []) f (if b then registers_at (name_in_slot c.name slot.0) c.number (Slot port slot) f else f)
    by_code true is = by_can (can_register (name_in_slot c.name slot.0) (Slot port slot) f.places) refl
    by_code false is = record {
      filling = higher s valid c e port found present verified at named slot.0 (slot.0 + 1) f (omega arith) fill;
      grows = λ test e. e;
      all = λ i less code_is. never i less code_is;
    } where
      never : {P : Type 0} (i : ℕ) → i < 1 → slice_get (code ∷ []) i ≡ Some 3 → P
      never zero less e =
          let three : code ≡ 3 = cc in
          let t = (Decides-eqb code 3).1 three in
          absurd (let clash : true ≡ false = sym t ∙ is in cc)
      never (suc i) less e = absurd (omega (arith, less))

  -- the floor behind a slot and those after it
  abbrev last_floor : ℕ → ℕ → ℕ → List ℕ → ToolFloor → ToolFloor
  last_floor k count code slots f = registers_slots c port (k + 1) count slots (registers_slot c port k code f)

  -- so many slots
  pub slots_filled : (count k : ℕ) (slots : List ℕ) (f : ToolFloor) → 1 ≤ k → k + count ≤ 26 → Fills k f → Filled k count slots f (registers_slots c port k count slots f)
  slots_filled zero k slots f first last fill = record {
    filling = higher s valid c e port found present verified at named k (k + 0) f (omega arith) fill;
    grows = λ test e. e;
    all = λ i less e. absurd (omega (arith, less));
  }
  slots_filled (suc count) k [] f first last fill = record {
    filling = higher s valid c e port found present verified at named k (k + suc count) f (omega arith) fill;
    grows = λ test e. e;
    all = λ i less e. absurd (cc);
  }
  slots_filled (suc count) k (code ∷ slots) f first last fill =
      let one = slot_filled (record { 0 = k }) code f first (omega (arith, last)) fill in
      let rest = slots_filled count (k + 1) slots (registers_slot c port k code f) (omega (arith, first)) (omega (arith, last)) one.filling in
      let end : (k + 1) + count ≡ k + suc count = omega arith in
      record {
        filling = subst (λ (n : ℕ). Fills n (registers_slots c port (k + 1) count slots (registers_slot c port k code f))) end rest.filling;
        grows = λ test e. rest.grows test (one.grows test e);
        all = λ i less e. of i less e one rest;
      } where
        of : (i : ℕ) → i < suc count → slice_get (code ∷ slots) i ≡ Some 3 → Filled k 1 (code ∷ []) f (registers_slot c port k code f) → Filled (k + 1) count slots (registers_slot c port k code f) (last_floor k count code slots f)
            → list_any (is_that_of c.number (name_in_slot c.name (k + i)) (Slot port (record { 0 = k + i }))) (last_floor k count code slots f).substrates ≡ true
        of zero less e one rest = rest.grows _ (one.all 0 (omega arith) e)
        of (suc i) less e one rest =
            let same : (k + 1) + i ≡ k + suc i = omega arith in
            subst (λ (n : ℕ). list_any (is_that_of c.number (name_in_slot c.name n) (Slot port (record { 0 = n }))) (last_floor k count code slots f).substrates ≡ true) same
            (rest.all i (omega (arith, less)) e)
