-- What becomes of the places of substrates where a carrier is taken away: each of its substrates is in a slot of the port, and has no place
-- any more; each other stays.
use Rattle.std.proofs.Common.{◌≡◌, ◌⊎◌, ℕ, suc, ◌==◌, Bool, true, false, not, ◌&&◌, ◌||◌, if◌then◌else◌, List, [], ◌∷◌, Option, Some, None, option_map, slice_get, inl, inr, refl, sym, ◌∙◌, ap, subst, arith}
use Rattle.std.specs.List.{AllByRecursion, list_any}
use Rattle.std.proofs.lemmas.Bool.{and_parts, or_parts, not-false}
use Rattle.std.proofs.lemmas.Bool.Decides.{Decides-eqb}
use Rattle.gem_tables.specs.Table.{firing}
use Rattle.gem_ids.specs.declared.numbers.PortNo.{PortNo}
use Rattle.load_port.specs.Ports.{port_numbered}
use Rattle.carrier.specs.declared.carrier.Carrier.{Carrier}
use Rattle.carrier.specs.Carriers.{has_name, is_port, carrier_named, carrier_numbered, are_named_apart}
use Rattle.shop_floor.specs.Floor.{Floor, number_of}
use Rattle.shop_floor.specs.Owning.{number_named}
use Rattle.shop_floor.specs.Rows.{owner, is_elsewhere}
use Rattle.shop_floor.specs.Valid.{IsFloor}
use Rattle.shop_floor.specs.Machines as shop
use Rattle.shop_floor.proofs.Apart.{found_only, found_passes, has_its_name, IsOnly}
use Rattle.shop_floor.proofs.Scans.{numbered_at}
use Rattle.substrate.specs.Places.{name_of, has_name as has_sub}
use Rattle.substrate.specs.declared.registered.Registered.{Registered}
use Rattle.records.proofs.Apart.{has_it}
use Rattle.floor_model.specs.declared.tracked.Substrate.{Substrate}
use Rattle.floor_model.specs.Floor.{ToolFloor, with_shop, substrate_numbered}
use Rattle.floor_model.specs.Machines.{floor_fired}
use Rattle.floor_model.specs.Substrates.{is_of, removed_of, without_carrier}
use Rattle.floor_moves.specs.Floor.{Loc, slot, own, is_outside}
use Rattle.floor_moves.specs.Carriers.{HasEnded}
use Rattle.floor_moves.specs.Valid.{Valid}
use Rattle.floor_moves.proofs.Promised.{one_place}
use Rattle.place_laws.specs.Picture.{loc_of, of_one, place_in, picture}
use Rattle.place_laws.specs.Sound.{IsOfKept, Base}
use Rattle.place_laws.specs.Standing.{IsCarried}
use Rattle.place_laws.proofs.Holding.{found_number, true_of_found, own_place}
use Rattle.place_laws.proofs.SlotNames.{slot_of_name}
use Rattle.place_laws.proofs.Stays.{at_found}
use Rattle.floor_laws.proofs.GrowFound.{passing, found_fewer}
use Rattle.floor_laws.proofs.GrowPlaces.{Gone, Grown, grown_same}
use Rattle.place_laws.proofs.Names.{numbered_in, each_found}
use Rattle.floor_laws.proofs.RemPlaces.{stays, removed_held, removed_given}

-- ---- lists of which some are left out

-- one of these passes the test
one_passes : (P : Substrate → Type 0) (test : Substrate → Bool) (ss : List Substrate) → AllByRecursion P ss → list_any test ss ≡ true → (s : Substrate) × (test s ≡ true) × P s
one_passes P test [] all e = absurd (cc)
one_passes P test (s ∷ ss) all e = of (test s) refl e (one_passes P test ss all.1) where
  of : (b : Bool) → test s ≡ b → (b || list_any test ss) ≡ true → (list_any test ss ≡ true → (t : Substrate) × (test t ≡ true) × P t) → (t : Substrate) × (test t ≡ true) × P t
  of true is f rest = (s, is, all.0)
  of false is f rest = rest f

-- ---- the places of a carrier that goes

module _ (k : ℕ) where
  -- a substrate of the carrier has the name of what is registered
  abbrev pub named_of : Registered → Substrate → Bool
  named_of r s = is_of k s && has_sub s.sub r

-- two substrates of one name are of one carrier
pub one_carrier : (cs : List Carrier) → are_named_apart cs ≡ true → (s t : Substrate) → IsCarried cs s → IsCarried cs t → s.sub ≡ t.sub → s.carrier ≡ t.carrier
one_carrier cs apart s t is other same =
    let parts = slot_of_name (is.0).name (other.0).name _ _ (sym is.2.named ∙ same ∙ other.2.named) in
    let only = found_only (λ (x : Carrier). x.number == t.carrier) cs other.0 apart other.1 in
    let one : is.0 ≡ other.0 = true_of_found (λ (x : Carrier). x.number) s.carrier (IsOnly other.0) cs is.0 only is.1 (has_its_name (other.0).name is.0 parts.0) in
    sym (found_number (λ (x : Carrier). x.number) s.carrier cs is.0 is.1) ∙ ap (λ (x : Carrier). x.number) one ∙ found_number (λ (x : Carrier). x.number) t.carrier cs other.0 other.1

-- each carrier is found by its number
all_from : (P : Carrier → Type 0) (ds : List Carrier) → ((place : ℕ) (d : Carrier) → slice_get ds place ≡ Some d → P d) → AllByRecursion P ds
all_from P [] f = tt
all_from P (d ∷ ds) f = (f 0 d refl, all_from P ds (λ place x e. f (suc place) x e))

-- ---- a carrier that is taken away

-- the carrier of a port is not present at another
abbrev pub IsHere : ℕ → Floor → Type 0
IsHere port f = is_elsewhere port (owner (port_numbered port f.ports)) f.carriers ≡ false

none_of : (test : Carrier → Bool) (cs : List Carrier) → list_any test cs ≡ false → AllByRecursion (λ (c : Carrier). test c ≡ false) cs
none_of test [] e = tt
none_of test (c ∷ cs) e = let parts = or_parts (test c) (list_any test cs) e in (parts.0, none_of test cs parts.1)

all_three : (a p h : Bool) → (a && (p && not h)) ≡ false → a ≡ true → p ≡ true → h ≡ true
all_three true true true e one two = refl
all_three true true false e one two = absurd (cc)
all_three true false h e one two = absurd (cc)
all_three false p h e one two = absurd (cc)

-- where it is present, it is at the port
pub at_its_port : (port : ℕ) (s : Floor) → IsHere port s → (name : List ℕ) → owner (port_numbered port s.ports) ≡ Some name → (c : Carrier) → carrier_named name s.carriers ≡ Some c → c.present ≡ true → is_port port c.port ≡ true
at_its_port port s here name its c found present =
    let none : is_elsewhere port (Some name) s.carriers ≡ false = ap (λ (o : Option (List ℕ)). is_elsewhere port o s.carriers) (sym its) ∙ here in
    let test = at_found (λ (d : Carrier). (has_name name d && (d.present && not (is_port port d.port))) ≡ false) (has_name name) s.carriers c (none_of _ s.carriers none) found in
    all_three (has_name name c) c.present (is_port port c.port) test (found_passes (has_name name) s.carriers c found) present

-- a carrier that is found by its name is found by its number
pub by_its_number : (s : Floor) → IsFloor s → (name : List ℕ) (c : Carrier) → carrier_named name s.carriers ≡ Some c → carrier_numbered c.number s.carriers ≡ Some c
by_its_number s valid name c found =
    at_found (λ (d : Carrier). carrier_numbered d.number s.carriers ≡ Some d) (has_name name) s.carriers c
    (all_from (λ (d : Carrier). carrier_numbered d.number s.carriers ≡ Some d) s.carriers (λ place d e. numbered_at 1 s.next_carrier s.carriers place d valid.rising e)) found

-- the carrier of a port, where it is present, is CARRIER COMPLETE or CARRIER STOPPED, or its map is not VERIFIED
abbrev pub EndsAt : ℕ → ToolFloor → Type 0
EndsAt port f = (name : List ℕ) (c : Carrier) → owner (port_numbered port f.shop.ports) ≡ Some name → carrier_named name f.shop.carriers ≡ Some c → c.present ≡ true → HasEnded c.number (picture f)

-- the place of what was looked for
abbrev loc_there : Option Registered → Option Loc
loc_there o = option_map (λ (r : Registered). loc_of r.at) o

-- the number of a carrier, where there is one
abbrev option_number : Option Carrier → Option ℕ
option_number o = option_map number_of o

-- a place that is not outside is a slot
slot_of : (l : Loc) → is_outside (Some l) ≡ false → (p : ℕ) × (k : ℕ) × (l ≡ slot p k)
slot_of (slot p k) e = (p, k, refl)
slot_of _ e = absurd (cc)

module _ (May : ℕ → Type 0) (f : ToolFloor) (b : Base f) (v : Valid (picture f)) (port : ℕ) (may : May port) (here : IsHere port f.shop) (ends : EndsAt port f) where
  -- its substrates are in slots of this port
  module _ (name : List ℕ) (its : owner (port_numbered port f.shop.ports) ≡ Some name) (c : Carrier) (found : carrier_named name f.shop.carriers ≡ Some c) where
    at_port : (p : PortNo) → c.present ≡ true → c.port ≡ Some p → p.0 ≡ port
    at_port p present at = (Decides-eqb p.0 port).0 (sym (ap (is_port port) at) ∙ at_its_port port f.shop here name its c found present)

    -- a substrate of it that has a place, by its number
    module _ (n : ℕ) (r : Registered) (there : numbered_in n f.places.held ≡ Some r) (any : list_any (named_of c.number r) f.substrates ≡ true) where
      -- it is kept, and is of the carrier
      its_own : (s : Substrate) × (substrate_numbered n f.substrates ≡ Some s) × IsCarried f.shop.carriers s × (s.carrier ≡ c.number)
      its_own =
          let kept = each_found (IsOfKept f.substrates) (λ (x : Registered). x.number == n) f.places.held r b.held there in
          let number : r.number ≡ n = found_number (λ (x : Registered). x.number) n f.places.held r there in
          let known : substrate_numbered n f.substrates ≡ Some kept.0 = ap (λ (k : ℕ). substrate_numbered k f.substrates) (sym number) ∙ kept.1 in
          let carried = true_of_found (λ (x : Substrate). x.number) n (IsCarried f.shop.carriers) f.substrates kept.0 b.carried known in
          let other = one_passes (IsCarried f.shop.carriers) (named_of c.number r) f.substrates b.carried any in
          let parts = and_parts (is_of c.number other.0) (has_sub (other.0).sub r) other.1 in
          let of_it : (other.0).carrier ≡ c.number = (Decides-eqb (other.0).carrier c.number).0 parts.0 in
          let names : (kept.0).sub ≡ (other.0).sub = kept.2 ∙ has_it name_of (other.0).sub r parts.1 in
          (kept.0, known, carried, one_carrier f.shop.carriers b.shop.apart kept.0 other.0 carried other.2 names ∙ of_it)

      -- that carrier is this one
      its_carrier : (its_own.2).0 ≡ c
      its_carrier = let one : Some (its_own.2).0 ≡ Some c = sym (its_own.2).1 ∙ ap (λ (k : ℕ). carrier_numbered k f.shop.carriers) its_own.3 ∙ by_its_number f.shop b.shop name c found in cc

      -- so the substrate is not outside
      inside : is_outside (place_in f.places n) ≡ false
      inside =
          let of_it : (picture f).carrier_of n ≡ c.number = ap (of_one 0 (λ (s : Substrate). s.carrier)) its_own.1 ∙ its_own.3 in
          let present : c.present ≡ true = sym (ap (λ (x : Carrier). x.present) its_carrier) ∙ (its_own.2).2.present in
          (one_place (picture f) v).ended_inside n (subst (λ (d : ℕ). HasEnded d (picture f)) (sym of_it) (ends name c its found present))

      in_port : (k : ℕ) × (loc_of r.at ≡ slot port k)
      in_port =
          let own_one = its_own in
          let s = own_one.0 in
          let carried = own_one.2 in
          let place : place_in f.places n ≡ Some (loc_of r.at) = ap (option_map (λ (x : Registered). loc_of x.at)) there in
          let at = slot_of (loc_of r.at) (ap is_outside (sym place) ∙ inside) in
          let home = v.places.home n at.0 at.1 (place ∙ ap (λ (l : Loc). Some l) at.2) in
          let own_is : own n (picture f) ≡ loc_of s.slot = own_place f n (record { one = s; found = own_one.1; its = carried.0; known = carried.1; of = carried.2 }) in
          let of = carried.2 in
          let port_is = at_port of.port (sym (ap (λ (x : Carrier). x.present) its_carrier) ∙ of.present) (sym (ap (λ (x : Carrier). x.port) its_carrier) ∙ of.at) in
          (of.slot.0, at.2 ∙ home ∙ own_is ∙ ap loc_of of.own ∙ ap (λ (k : ℕ). slot k of.slot.0) port_is)

    taken : (s : Floor) → Grown May f (with_shop s (without_carrier (Some c.number) f))
    taken s = record {
      given = let same = removed_given c.number f.substrates f.places in omega (arith, same);
      places = λ n less. of n (numbered_in n f.places.held) refl;
      new = λ n l past within is. let same = removed_given c.number f.substrates f.places in absurd (omega (arith, same, past, within));
    } where
      behind : (n : ℕ) → numbered_in n (removed_of c.number f.substrates f.places).held ≡ passing (stays c.number f.substrates) (numbered_in n f.places.held)
      behind n = ap (numbered_in n) (removed_held c.number f.substrates f.places) ∙ found_fewer (stays c.number f.substrates) n 0 f.places.given f.places.held b.places.numbered

      of : (n : ℕ) (o : Option Registered) → numbered_in n f.places.held ≡ o → (place_in (removed_of c.number f.substrates f.places) n ≡ place_in f.places n) ⊎ Gone May f (with_shop s (without_carrier (Some c.number) f)) n
      of n None is = inl (ap loc_there (behind n ∙ ap (passing (stays c.number f.substrates)) is) ∙ sym (ap loc_there is))
      of n (Some r) is = by (stays c.number f.substrates r) refl where
        by : (t : Bool) → stays c.number f.substrates r ≡ t → (place_in (removed_of c.number f.substrates f.places) n ≡ place_in f.places n) ⊎ Gone May f (with_shop s (without_carrier (Some c.number) f)) n
        by true e = inl (ap loc_there (behind n ∙ ap (passing (stays c.number f.substrates)) is ∙ ap (λ (t : Bool). if t then Some r else None) e) ∙ sym (ap loc_there is))
        by false e =
            let there = in_port n r is (not-false _ e) in
            inr (record {
              port = port;
              slot_there = there.0;
              may = may;
              before = ap loc_there is ∙ ap (λ (l : Loc). Some l) there.1;
              after = ap loc_there (behind n ∙ ap (passing (stays c.number f.substrates)) is ∙ ap (λ (t : Bool). if t then Some r else None) e);
            })

  named_grows : (name : List ℕ) → owner (port_numbered port f.shop.ports) ≡ Some name → (s : Floor) (k : Option Carrier) → carrier_named name f.shop.carriers ≡ k → Grown May f (with_shop s (without_carrier (option_number k) f))
  named_grows name its s None none = grown_same May f _ refl
  named_grows name its s (Some c) found = taken name its c found s

  owner_grows : (s : Floor) (o : Option (List ℕ)) → owner (port_numbered port f.shop.ports) ≡ o → Grown May f (with_shop s (without_carrier (number_named o f.shop) f))
  owner_grows s None its = grown_same May f _ refl
  owner_grows s (Some name) its = named_grows name its s (carrier_named name f.shop.carriers) refl

  -- row 6 of table 7
  pub taken_grows : Grown May f (floor_fired (firing 7 port 6) f)
  taken_grows = owner_grows (shop.floor_fired (firing 7 port 6) f.shop) (owner (port_numbered port f.shop.ports)) refl
