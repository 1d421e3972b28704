-- The substrates of a carrier are registered slot by slot, none is refused, and what holds goes on to hold.
use Rattle.std.proofs.Common.{◌≡◌, ◌≤◌, ◌<◌, ℕ, ◌+◌, ◌==◌, nat_lt, Bool, true, false, not, ◌&&◌, if◌then◌else◌, List, [], ◌∷◌, ◌++◌, length, find, map, Option, Some, None, is_some, IsSomeAnd, option_map, refl, sym, ◌∙◌, ap, subst, arith}
use Rattle.std.specs.List.{AllByRecursion}
use Rattle.std.proofs.lemmas.Bool.{false_from_ne_true}
use Rattle.std.proofs.lemmas.Bool.Decides.{nat_tests}
use Rattle.gem_tables.specs.Table.{is_one_of}
use Rattle.gem_ids.specs.declared.numbers.LocId.{LocId}
use Rattle.gem_ids.specs.declared.numbers.LocId.TheVariants.{Slot}
use Rattle.gem_ids.specs.declared.numbers.PortNo.{PortNo}
use Rattle.gem_ids.specs.declared.numbers.SlotNo.{SlotNo}
use Rattle.gem_ids.specs.Names.{name_in_slot}
use Rattle.carrier.specs.declared.carrier.Carrier.{Carrier}
use Rattle.carrier.specs.Record.{is_map_verified}
use Rattle.carrier.specs.Carriers.{carrier_numbered, is_present_at}
use Rattle.process_job.specs.Jobs.{job_numbered, AreNumbered as JobsNumbered}
use Rattle.shop_floor.specs.Floor.{Floor}
use Rattle.shop_floor.specs.Valid.{IsFloor}
use Rattle.shop_floor.proofs.Apart.{all_both, all_follows, all_pushed, found_only, found_one, found_passes, has_its_name, IsOnly}
use Rattle.shop_floor.proofs.Present.{one_number, has_number, numbered_contained}
use Rattle.substrate.specs.Locations.{is_location}
use Rattle.substrate.specs.Places.{name_of, ArePlaces, has_name, stands_at, is_taken, is_known, substrate_named, registered, register_fault, fault_of, most_substrates}
use Rattle.substrate.specs.declared.registered.Registered.{Registered}
use Rattle.records.proofs.Places.{known_found}
use Rattle.records.proofs.Apart.{apart_more as named_more, has_it, length_more}
use Rattle.substrate.proofs.Sites.{same_is}
use Rattle.substrate.proofs.Standing.{at_none, placed_more, all_more, numbered_more}
use Rattle.floor_model.specs.declared.tracked.Substrate.{Substrate}
use Rattle.floor_model.specs.Floor.{ToolFloor, with_shop, number_of}
use Rattle.floor_model.specs.Floor.{RiseTo}
use Rattle.floor_model.specs.Substrates.{can_register, first_substrate}
use Rattle.floor_moves.specs.Floor.{slot as slot_at}
use Rattle.floor_moves.specs.Carriers.{MayRegister, registered as registered_by_numbers}
use Rattle.floor_moves.specs.Valid.{Valid}
use Rattle.floor_moves.proofs.Agreeing.{agree-keeps}
use Rattle.floor_moves.proofs.Registering.{slot_free, registered-keeps}
use Rattle.place_laws.specs.Picture.{picture, loc_of, place_in, where_present, port_number, of_one}
use Rattle.place_laws.specs.Standing.{IsCarried, AreApart}
use Rattle.place_laws.specs.Sound.{IsOfKept, IsInItsJob}
use Rattle.place_laws.proofs.Appended.{front}
use Rattle.place_laws.proofs.Holding.{found_number, true_of_found, found_among, rising_given, kept_there, own_slot, IsThere}
use Rattle.place_laws.proofs.SlotNames.{slot_of_name}
use Rattle.picture_laws.proofs.Registering.{registering_agrees}
use Rattle.floor_laws.proofs.RegFound.{few_of, few_held, IsAmong}
use Rattle.floor_laws.proofs.RegMore.{apart_more, rise_more, found_front, found_last, none_held, no_job, own_number}
use Rattle.floor_laws.proofs.RegNames.{modules_same}
use Rattle.place_laws.proofs.Names.{each_found, found_by_number}
use Rattle.floor_moves.specs.Agree.{Agree}

-- a carrier that is present with a port is so there
present_here : (c : Carrier) (port : PortNo) → c.present ≡ true → c.port ≡ Some port → is_present_at port.0 c ≡ true
present_here c port present at = rw (present, at) (own_number port.0)

-- the carrier whose substrates are registered, as it is before its map is VERIFIED, and then; its port
module _ (s : Floor) (valid : IsFloor s) (c e : Carrier) (port : PortNo) (found : carrier_numbered c.number s.carriers ≡ Some e) (present : e.present ≡ true) (verified : is_map_verified e.states.map ≡ true) (at : e.port ≡ Some port) (named : e.name ≡ c.name) where
  -- a substrate of it is of a slot below this one
  abbrev IsBelow : ℕ → Substrate → Type 0
  IsBelow k t = t.carrier ≡ c.number → (slot : SlotNo) → t.slot ≡ Slot port slot → slot.0 < k

  -- what holds before the slot of a number
  pub record Filling (k : ℕ) (f : ToolFloor) : Type 0 where
    pub carried : AllByRecursion (IsCarried s.carriers) f.substrates
    pub apart : AreApart f.substrates
    pub rising : RiseTo 0 f.places.given f.substrates
    pub below : AllByRecursion (IsBelow k) f.substrates
    pub same_ports : f.places.ports ≡ length s.ports
    pub modules : length f.modules ≤ 2 + f.places.chambers
    pub places : ArePlaces f.places
    pub held : AllByRecursion (IsOfKept f.substrates) f.places.held
    pub numbered : JobsNumbered 0 f.jobs.process.given f.jobs.process.kept
    pub given : AllByRecursion (λ (t : Substrate). t.job ≤ f.jobs.process.given) f.substrates
    pub members : AllByRecursion (IsInItsJob s.carriers f.jobs) f.substrates
    pub by_numbers : Valid (picture (with_shop s f))

  -- what holds before a slot holds before a later one
  pub higher : (k l : ℕ) (f : ToolFloor) → k ≤ l → Filling k f → Filling l f
  higher k l f less fill = record {
    carried = fill.carried;
    apart = fill.apart;
    rising = fill.rising;
    below = all_follows (IsBelow k) (IsBelow l) f.substrates (λ t b its slot there. let first = b its slot there in omega (arith, first, less)) fill.below;
    same_ports = fill.same_ports;
    modules = fill.modules;
    places = fill.places;
    held = fill.held;
    numbered = fill.numbered;
    given = fill.given;
    members = fill.members;
    by_numbers = fill.by_numbers;
  }

  -- a carrier of its name is it
  only_named : (n : ℕ) (d : Carrier) → carrier_numbered n s.carriers ≡ Some d → d.name ≡ c.name → d ≡ e
  only_named n d there same =
      let only = found_only (λ (x : Carrier). x.number == c.number) s.carriers e valid.apart found in
      true_of_found (λ (x : Carrier). x.number) n (IsOnly e) s.carriers d only there (has_its_name e.name d (same ∙ sym named))

  -- no substrate has the next slot, and none has its name
  not_there : (slot : SlotNo) (t : Substrate) → IsCarried s.carriers t × IsBelow slot.0 t → t.slot ≡ Slot port slot → ⊥
  not_there slot t is same =
      let of = is.0.2 in
      let both : Slot of.port of.slot ≡ Slot port slot = sym of.own ∙ same in
      let its : of.port ≡ port = cc in
      let there : (is.0.0).port ≡ Some port = of.at ∙ ap Some its in
      let number : t.carrier ≡ c.number = one_number s port.0 t.carrier c.number is.0.0 e is.0.1 found (present_here is.0.0 port of.present there) (present_here e port present at) valid in
      let less = is.1 number slot same in
      omega (arith, less)

  not_named : (slot : SlotNo) (t : Substrate) → IsCarried s.carriers t × IsBelow slot.0 t → t.sub ≡ name_in_slot c.name slot.0 → ⊥
  not_named slot t is same =
      let of = is.0.2 in
      let parts = slot_of_name (is.0.0).name c.name of.slot.0 slot.0 (sym of.named ∙ same) in
      let one : is.0.0 ≡ e = only_named t.carrier is.0.0 is.0.1 parts.0 in
      let its : Some of.port ≡ Some port = sym of.at ∙ ap (λ (x : Carrier). x.port) one ∙ at in
      let port_same : of.port ≡ port = cc in
      let number : t.carrier ≡ c.number = sym (found_number (λ (x : Carrier). x.number) t.carrier s.carriers is.0.0 is.0.1) ∙ ap (λ (x : Carrier). x.number) one ∙ found_number (λ (x : Carrier). x.number) c.number s.carriers e found in
      let less = is.1 number of.slot (of.own ∙ ap (λ (x : PortNo). Slot x of.slot) port_same) in
      let k = parts.1 in
      omega (arith, less, k)

  -- the port is one of the tool
  is_place : (slot : SlotNo) (ports chambers : ℕ) → ports ≡ length s.ports → 1 ≤ slot.0 → slot.0 ≤ 25 → is_location ports chambers (Slot port slot) ≡ true
  is_place slot ports chambers same first last =
      let within = subst (λ (o : Option PortNo). IsSomeAnd o (λ (n : PortNo). (1 ≤ n.0) × (n.0 ≤ length s.ports))) at (has_number s e (numbered_contained c.number s.carriers e found) present valid) in
      let one = within.0 in
      let most = within.1 in
      grind (arith, nat_tests, one, most, same, first, last)

  no_fault : (o : Option (List ℕ)) (known room : Bool) → o ≡ None → known ≡ false → room ≡ true → is_some (fault_of o known room) ≡ false
  no_fault None false true a b d = refl
  no_fault None false false a b d = absurd (cc)
  no_fault None true room a b d = absurd (cc)
  no_fault (Some who) known room a b d = absurd (cc)

  both_true : (a b : Bool) → a ≡ true → b ≡ false → (a && not b) ≡ true
  both_true true false e f = refl
  both_true true true e f = absurd (cc)
  both_true false b e f = absurd (cc)

  -- ---- before a slot

  module _ (slot : SlotNo) (f : ToolFloor) (first : 1 ≤ slot.0) (last : slot.0 ≤ 25) (fill : Filling slot.0 f) where
    abbrev pub name : List ℕ
    name = name_in_slot c.name slot.0

    all : AllByRecursion (λ (t : Substrate). IsCarried s.carriers t × IsBelow slot.0 t) f.substrates
    all = all_both (IsCarried s.carriers) (IsBelow slot.0) f.substrates fill.carried fill.below

    -- its substrate may be registered, by numbers
    pub may : MayRegister c.number port.0 slot.0 (picture (with_shop s f))
    may = record {
      is_present = ap (of_one None where_present) found ∙ ap (λ (b : Bool). if b then port_number e.port else None) present ∙ ap port_number at;
      is_read = ap (of_one false (λ (x : Carrier). is_map_verified x.states.map)) found ∙ verified;
      is_new = λ n known its same. new n its same (kept_there (with_shop s f) fill.carried n known);
    } where
      new : (n : ℕ) → (picture (with_shop s f)).carrier_of n ≡ c.number → (picture (with_shop s f)).slot_of n ≡ slot.0 → IsThere (with_shop s f) n → ⊥
      new n its same h =
          let carrier : h.one.carrier ≡ c.number = sym (ap (of_one 0 (λ (t : Substrate). t.carrier)) h.found) ∙ its in
          let both : Some h.its ≡ Some e = sym h.known ∙ ap (λ (k : ℕ). carrier_numbered k s.carriers) carrier ∙ found in
          let one : h.its ≡ e = cc in
          let ports : Some h.of.port ≡ Some port = sym h.of.at ∙ ap (λ (x : Carrier). x.port) one ∙ at in
          let port_same : h.of.port ≡ port = cc in
          let below = true_of_found number_of n (IsBelow slot.0) f.substrates h.one fill.below h.found in
          let less = below carrier h.of.slot (h.of.own ∙ ap (λ (x : PortNo). Slot x h.of.slot) port_same) in
          let number : h.of.slot.0 ≡ slot.0 = sym (own_slot (with_shop s f) n h) ∙ same in
          omega (arith, less, number)

    -- nobody is there
    not_taken : is_taken (Slot port slot) f.places.held ≡ false
    not_taken = false_from_ne_true (is_taken (Slot port slot) f.places.held) (λ is. of (found_one (stands_at (Slot port slot)) f.places.held is)) where
      of : (r : Registered) × (find (stands_at (Slot port slot)) f.places.held ≡ Some r) → ⊥
      of w =
          let there : (w.0).at ≡ Slot port slot = same_is (w.0).at (Slot port slot) (found_passes (stands_at (Slot port slot)) f.places.held w.0 w.1) in
          let placed : place_in f.places (w.0).number ≡ Some (slot_at port.0 slot.0) =
          ap (option_map (λ (r : Registered). loc_of r.at)) (found_by_number 0 f.places.given (stands_at (Slot port slot)) f.places.held w.0 fill.places.numbered w.1) ∙ ap (λ (l : LocId). Some (loc_of l)) there in
          slot_free (picture (with_shop s f)) fill.by_numbers c.number port.0 slot.0 may (w.0).number placed

    -- nobody has the name
    not_known : is_known name f.places.held ≡ false
    not_known = false_from_ne_true (is_known name f.places.held) (λ is. of (found_one (has_name name) f.places.held is)) where
      of : (r : Registered) × (find (has_name name) f.places.held ≡ Some r) → ⊥
      of w =
          let kept = each_found (IsOfKept f.substrates) (has_name name) f.places.held w.0 fill.held w.1 in
          let both = true_of_found number_of (w.0).number (λ (t : Substrate). IsCarried s.carriers t × IsBelow slot.0 t) f.substrates kept.0 all kept.1 in
          not_named slot kept.0 both (kept.2 ∙ has_it name_of name w.0 (found_passes (has_name name) f.places.held w.0 w.1))

    -- there is room
    few : length f.places.held ≤ 100
    few =
        let among = all_follows (IsOfKept f.substrates) (IsAmong f.substrates) f.places.held (λ r kept. found_among number_of r.number f.substrates kept.0 kept.1) fill.held in
        let less = few_held 0 f.places.given 0 f.places.given f.places.held f.substrates fill.places.numbered fill.rising among in
        let most = few_of (with_shop s f) valid fill.carried fill.by_numbers in
        let ports : length s.ports ≤ 4 = valid.few in
        omega (arith, less, most, ports)

    -- so its substrate can be registered
    pub can : can_register name (Slot port slot) f.places ≡ true
    can =
        let less = few in
        let room : nat_lt (length f.places.held) most_substrates ≡ true = grind (arith, nat_tests, less) in
        both_true (is_location f.places.ports f.places.chambers (Slot port slot)) (is_some (register_fault name (Slot port slot) f.places.held))
        (is_place slot f.places.ports f.places.chambers fill.same_ports first last)
        (no_fault _ _ _ (at_none (Slot port slot) f.places.held not_taken) not_known room)

    -- ---- behind it

    abbrev pub new : Substrate
    new = first_substrate (f.places.given + 1) name c.number (Slot port slot)

    abbrev new_place : Registered
    new_place = record { sub = name; number = f.places.given + 1; at = Slot port slot }

    -- the floor with it
    abbrev pub behind : ToolFloor
    behind = record f {
      places = registered name (Slot port slot) f.places;
      substrates = f.substrates ++ new ∷ [];
    }

    fresh : is_one_of (map number_of f.substrates) (f.places.given + 1) ≡ false
    fresh = false_from_ne_true (is_one_of (map number_of f.substrates) (f.places.given + 1)) (λ is. let less = rising_given 0 f.places.given f.substrates (f.places.given + 1) fill.rising is in omega (arith, less))

    jobless : job_numbered 0 f.jobs.process.kept ≡ None
    jobless = no_job 0 f.jobs.process.given 0 f.jobs.process.kept fill.numbered (omega arith)

    -- names that are found are found still
    found_still : (sub : List ℕ) (r : Registered) → substrate_named sub f.places.held ≡ Some r → substrate_named sub (f.places.held ++ new_place ∷ []) ≡ Some r
    found_still sub r there = front (has_name sub) f.places.held (new_place ∷ []) (sym (known_found (has_name sub) f.places.held) ∙ ap is_some there) ∙ there

    -- its picture
    pub slot_agrees : Agree (registered_by_numbers c.number port.0 slot.0 (picture (with_shop s f))) (picture (with_shop s behind))
    slot_agrees =
        registering_agrees name c.number port slot (with_shop s f) fresh (none_held 0 f.places.given (f.places.given + 1) f.places.held fill.places.numbered (omega arith)) jobless
        (modules_same (with_shop s f) fill.rising fill.by_numbers.members (registered name (Slot port slot) f.places) (λ sub r there is. found_still sub r there))

    valid_behind : Valid (picture (with_shop s behind))
    valid_behind = agree-keeps (registered_by_numbers c.number port.0 slot.0 (picture (with_shop s f))) (picture (with_shop s behind)) slot_agrees (registered-keeps (picture (with_shop s f)) fill.by_numbers c.number port.0 slot.0 may)

    places_behind : ArePlaces (registered name (Slot port slot) f.places)
    places_behind = record {
      named_apart = named_more name_of new_place f.places.held fill.places.named_apart not_known;
      placed_apart = placed_more new_place f.places.held fill.places.placed_apart not_taken;
      within = all_more (λ (r : Registered). is_location f.places.ports f.places.chambers r.at) new_place f.places.held fill.places.within (is_place slot f.places.ports f.places.chambers fill.same_ports first last);
      numbered = numbered_more 0 f.places.given new_place f.places.held fill.places.numbered refl;
      few = (let more = length_more new_place f.places.held in let less = few in omega (arith, more, less));
    }

    held_behind : AllByRecursion (IsOfKept (f.substrates ++ new ∷ [])) (f.places.held ++ new_place ∷ [])
    held_behind =
        all_pushed (IsOfKept (f.substrates ++ new ∷ [])) f.places.held new_place
        (all_follows (IsOfKept f.substrates) (IsOfKept (f.substrates ++ new ∷ [])) f.places.held (λ r kept. (kept.0, found_front r.number f.substrates new kept.0 kept.1, kept.2)) fill.held)
        (new, found_last (f.places.given + 1) f.substrates new refl fresh, refl)

    pub filled_one : Filling (slot.0 + 1) behind
    filled_one =
        let there = all_follows _ (λ (t : Substrate). t.slot ≡ Slot port slot → ⊥) f.substrates (not_there slot) all in
        let later = higher slot.0 (slot.0 + 1) f (omega arith) fill in
        record {
          carried = all_pushed (IsCarried s.carriers) f.substrates new fill.carried (e, found, record { present = present; verified = verified; port = port; slot = slot; at = at; own = refl; named = ap (λ (n : List ℕ). name_in_slot n slot.0) (sym named); first = first; last = last });
          apart = apart_more f.substrates new fill.apart there;
          rising = rise_more 0 f.places.given f.substrates new refl fill.rising;
          below = all_pushed (IsBelow (slot.0 + 1)) f.substrates new later.below (λ its other same. let slots : slot ≡ other = cc in let numbers : slot.0 ≡ other.0 = ap (λ (x : SlotNo). x.0) slots in omega (arith, numbers));
          same_ports = fill.same_ports;
          modules = fill.modules;
          places = places_behind;
          held = held_behind;
          numbered = fill.numbered;
          given = all_pushed (λ (t : Substrate). t.job ≤ f.jobs.process.given) f.substrates new fill.given (omega arith);
          members = all_pushed (IsInItsJob s.carriers f.jobs) f.substrates new fill.members (λ j is. absurd (let clash : None ≡ Some j = sym jobless ∙ is in cc));
          by_numbers = valid_behind;
        }
