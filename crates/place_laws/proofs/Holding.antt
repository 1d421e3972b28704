-- Substrates and carriers that are found by their numbers, and numbers and slots that differ.
use Rattle.std.proofs.Common.{◌≡◌, ◌≤◌, ℕ, ◌==◌, Bool, true, false, ◌&&◌, ◌||◌, if◌then◌else◌, List, [], ◌∷◌, find, map, Option, Some, None, refl, sym, ◌∙◌, ap, subst, arith}
use Rattle.std.specs.List.{AllByRecursion}
use Rattle.std.proofs.lemmas.Bool.{or_from}
use Rattle.std.proofs.lemmas.Bool.Decides.{Decides-eqb}
use Rattle.gem_tables.specs.Table.{is_one_of}
use Rattle.gem_ids.specs.declared.numbers.LocId.{LocId}
use Rattle.gem_ids.specs.declared.numbers.PortNo.{PortNo}
use Rattle.carrier.specs.declared.carrier.Carrier.{Carrier}
use Rattle.carrier.specs.Carriers.{carrier_numbered, is_port, is_present_at}
use Rattle.shop_floor.proofs.Apart.{found_passes}
use Rattle.floor_model.specs.declared.tracked.Substrate.{Substrate}
use Rattle.floor_model.specs.Floor.{ToolFloor, substrate_numbered, number_of}
use Rattle.floor_model.specs.Floor.{RiseTo}
use Rattle.floor_moves.specs.Floor.{slot, own}
use Rattle.floor_moves.specs.Valid.{IsDistinct}
use Rattle.place_laws.specs.Picture.{picture, loc_of, port_in, slot_in, port_number, where_present, of_one}
use Rattle.place_laws.specs.Standing.{IsOf, IsCarried, AreApart}

-- ---- one that is found

module _ {A : Type 0} (number : A → ℕ) (n : ℕ) where
  -- one of a number that is one of the list's is found
  pub one_found : (xs : List A) → is_one_of (map number xs) n ≡ true → (x : A) × (find (λ x. number x == n) xs ≡ Some x)
  one_found [] e = absurd (cc)
  one_found (x ∷ xs) e = of (number x == n) e (one_found xs) where
    of : (b : Bool) → (b || is_one_of (map number xs) n) ≡ true → (is_one_of (map number xs) n ≡ true → (y : A) × (find (λ x. number x == n) xs ≡ Some y)) → (y : A) × ((if b then Some x else find (λ x. number x == n) xs) ≡ Some y)
    of true e rest = (x, refl)
    of false e rest = rest e

  -- the number of one that is found is one of the list's
  pub found_among : (xs : List A) (x : A) → find (λ x. number x == n) xs ≡ Some x → is_one_of (map number xs) n ≡ true
  found_among [] x e = absurd (cc)
  found_among (y ∷ ys) x e = of (number y == n) e (found_among ys x) where
    of : (b : Bool) → (if b then Some y else find (λ x. number x == n) ys) ≡ Some x → (find (λ x. number x == n) ys ≡ Some x → is_one_of (map number ys) n ≡ true) → (b || is_one_of (map number ys) n) ≡ true
    of true e rest = refl
    of false e rest = rest e

  -- it has the number
  pub found_number : (xs : List A) (x : A) → find (λ x. number x == n) xs ≡ Some x → number x ≡ n
  found_number xs x e = (Decides-eqb (number x) n).0 (found_passes (λ (y : A). number y == n) xs x e)

  -- what is true of each is true of it
  pub true_of_found : (P : A → Type 0) (xs : List A) (x : A) → AllByRecursion P xs → find (λ x. number x == n) xs ≡ Some x → P x
  true_of_found P [] x all e = absurd (cc)
  true_of_found P (y ∷ ys) x all e = of (number y == n) e (true_of_found P ys x all.1) where
    of : (b : Bool) → (if b then Some y else find (λ x. number x == n) ys) ≡ Some x → (find (λ x. number x == n) ys ≡ Some x → P x) → P x
    of true e rest = let same : y ≡ x = cc in subst P same all.0
    of false e rest = rest e

-- ---- numbers that rise

-- the last number is not past what was given
pub last_given : (last given : ℕ) (ss : List Substrate) → RiseTo last given ss → last ≤ given
last_given last given [] rising = rising
last_given last given (s ∷ ss) rising = let more = rising.0 in let rest = last_given s.number given ss rising.1 in omega (arith, more, rest)

-- none has a number that is not past the last one before
pub none_before : (last given : ℕ) (ss : List Substrate) (n : ℕ) → RiseTo last given ss → n ≤ last → is_one_of (map number_of ss) n ≡ false
none_before last given [] n rising less = refl
none_before last given (s ∷ ss) n rising less = or_from (s.number == n) (is_one_of (map number_of ss) n) (other (s.number == n) refl) (let more = rising.0 in none_before s.number given ss n rising.1 (omega (arith, less, more))) where
  other : (b : Bool) → (s.number == n) ≡ b → (s.number == n) ≡ false
  other true e = let same = (Decides-eqb s.number n).0 e in let more = rising.0 in absurd (omega (arith, same, less, more))
  other false e = e

-- no number is there twice
pub rising_distinct : (last given : ℕ) (ss : List Substrate) → RiseTo last given ss → IsDistinct (map number_of ss)
rising_distinct last given [] rising = tt
rising_distinct last given (s ∷ ss) rising = (none_before s.number given ss s.number rising.1 (omega arith), rising_distinct s.number given ss rising.1)

-- none is past what was given
pub rising_given : (last given : ℕ) (ss : List Substrate) (n : ℕ) → RiseTo last given ss → is_one_of (map number_of ss) n ≡ true → n ≤ given
rising_given last given [] n rising e = absurd (cc)
rising_given last given (s ∷ ss) n rising e = of (s.number == n) refl e (rising_given s.number given ss n rising.1) where
  of : (b : Bool) → (s.number == n) ≡ b → (b || is_one_of (map number_of ss) n) ≡ true → (is_one_of (map number_of ss) n ≡ true → n ≤ given) → n ≤ given
  of true q e rest = let same = (Decides-eqb s.number n).0 q in let less = last_given s.number given ss rising.1 in omega (arith, same, less)
  of false q e rest = rest e

-- ---- slots

-- of two that are found, one has the slot of the other only where they are one
pub one_of_slot : (n m : ℕ) (ss : List Substrate) (s t : Substrate) → AreApart ss → substrate_numbered n ss ≡ Some s → substrate_numbered m ss ≡ Some t → s.slot ≡ t.slot → s ≡ t
one_of_slot n m [] s t apart e f same = absurd (cc)
one_of_slot n m (x ∷ xs) s t apart e f same = of (x.number == n) (x.number == m) e f (λ g h. one_of_slot n m xs s t apart.1 g h same) where
  of : (b c : Bool) → (if b then Some x else substrate_numbered n xs) ≡ Some s → (if c then Some x else substrate_numbered m xs) ≡ Some t → (substrate_numbered n xs ≡ Some s → substrate_numbered m xs ≡ Some t → s ≡ t) → s ≡ t
  of true true e f rest = let one : x ≡ s = cc in let other : x ≡ t = cc in sym one ∙ other
  of true false e f rest =
      let one : x ≡ s = cc in
      absurd (true_of_found number_of m (λ (y : Substrate). x.slot ≡ y.slot → ⊥) xs t apart.0 f (ap (λ (y : Substrate). y.slot) one ∙ same))
  of false true e f rest =
      let one : x ≡ t = cc in
      absurd (true_of_found number_of n (λ (y : Substrate). x.slot ≡ y.slot → ⊥) xs s apart.0 e (ap (λ (y : Substrate). y.slot) one ∙ sym same))
  of false false e f rest = rest e f

-- ---- carriers

-- a carrier that is present at a port is present there
pub present_there : (c : Carrier) (p : ℕ) → where_present c ≡ Some p → is_present_at p c ≡ true
present_there c p e = of c.present c.port e where
  of : (b : Bool) (o : Option PortNo) → (if b then port_number o else None) ≡ Some p → (b && is_port p o) ≡ true
  of true (Some n) e = let same : n.0 ≡ p = cc in (Decides-eqb n.0 p).1 same
  of true None e = absurd (cc)
  of false o e = absurd (cc)

-- ---- work

-- ---- all of it

-- the substrate of a number, with its carrier
pub record IsThere (f : ToolFloor) (n : ℕ) : Type 0 where
  pub one : Substrate
  pub found : substrate_numbered n f.substrates ≡ Some one
  pub its : Carrier
  pub known : carrier_numbered one.carrier f.shop.carriers ≡ Some its
  pub of : IsOf one its

module _ (f : ToolFloor) where
  -- one that is kept is there
  pub kept_there : AllByRecursion (IsCarried f.shop.carriers) f.substrates → (n : ℕ) → is_one_of (map number_of f.substrates) n ≡ true → IsThere f n
  kept_there carried n e =
      let s = one_found number_of n f.substrates e in
      let w = true_of_found number_of n (IsCarried f.shop.carriers) f.substrates s.0 carried s.1 in
      record { one = s.0; found = s.1; its = w.0; known = w.1; of = w.2 }

  -- its own slot is its place
  pub own_place : (n : ℕ) (h : IsThere f n) → own n (picture f) ≡ loc_of h.one.slot
  own_place n h =
      ap (λ (o : Option Substrate). slot (of_one 0 (λ (s : Substrate). port_in s.slot) o) (of_one 0 (λ (s : Substrate). slot_in s.slot) o)) h.found
      ∙ subst (λ (l : LocId). slot (port_in l) (slot_in l) ≡ loc_of l) (sym h.of.own) refl

  -- the port of its slot
  pub own_port : (n : ℕ) (h : IsThere f n) → (picture f).port_of n ≡ h.of.port.0
  own_port n h = ap (of_one 0 (λ (s : Substrate). port_in s.slot)) h.found ∙ ap port_in h.of.own

  -- the number of its slot
  pub own_slot : (n : ℕ) (h : IsThere f n) → (picture f).slot_of n ≡ h.of.slot.0
  own_slot n h = ap (of_one 0 (λ (s : Substrate). slot_in s.slot)) h.found ∙ ap slot_in h.of.own

  -- what is said of its carrier
  pub its_carrier : {B : Type 0} (else_ : B) (says : Carrier → B) (n : ℕ) (h : IsThere f n) → of_one else_ says (carrier_numbered ((picture f).carrier_of n) f.shop.carriers) ≡ says h.its
  its_carrier else_ says n h =
      ap (λ (c : ℕ). of_one else_ says (carrier_numbered c f.shop.carriers)) (ap (of_one 0 (λ (s : Substrate). s.carrier)) h.found)
      ∙ ap (of_one else_ says) h.known

  -- its carrier is present at the port of its slot
  pub its_port : (n : ℕ) (h : IsThere f n) → where_present h.its ≡ Some h.of.port.0
  its_port n h = ap (λ (b : Bool). if b then port_number h.its.port else None) h.of.present ∙ ap port_number h.of.at

  -- who is present at a port
  pub present_tells : (c p : ℕ) → (picture f).present_at c ≡ Some p → (x : Carrier) × (carrier_numbered c f.shop.carriers ≡ Some x) × (is_present_at p x ≡ true)
  present_tells c p e = of (carrier_numbered c f.shop.carriers) refl e where
    of : (o : Option Carrier) → carrier_numbered c f.shop.carriers ≡ o → of_one None where_present o ≡ Some p → (x : Carrier) × (carrier_numbered c f.shop.carriers ≡ Some x) × (is_present_at p x ≡ true)
    of None q e = absurd (cc)
    of (Some x) q e = (x, q, present_there x p e)
