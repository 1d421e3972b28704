-- A control job that is at work is so where a carrier is removed from its port: that has ended, and so none of the process jobs that are left
-- in the control job names it, and each of its substrates that is counted is done.
use Rattle.std.proofs.Common.{◌≡◌, ℕ, zero, suc, ◌==◌, Bool, true, false, if◌then◌else◌, not, ◌&&◌, ◌||◌, List, [], ◌∷◌, filter, Option, Some, None, option_map, bytes_eq, refl, sym, ◌∙◌, ap, subst, ◌⊎◌, inl, inr, arith}
use Rattle.std.specs.List.{AllByRecursion, list_any, list_all}
use Rattle.std.proofs.lemmas.Bool.{true≢false, and_parts, not-true, not-false}
use Rattle.std.proofs.lemmas.Slice.Eq.{bytes_eq-Decides}
use Rattle.gem_tables.specs.Table.{firing}
use Rattle.gem_tables.proofs.Rows.{both}
use Rattle.load_port.specs.declared.port.Port.{Port}
use Rattle.load_port.specs.Ports as ports
use Rattle.load_port.specs.Ports.{port_numbered, change_port}
use Rattle.carrier.specs.declared.carrier.Carrier.{Carrier}
use Rattle.carrier.specs.Tables.{access_number}
use Rattle.carrier.specs.Record.{is_map_verified}
use Rattle.carrier.specs.Carriers.{has_name, carrier_named, carrier_numbered, without}
use Rattle.shop_floor.specs.Floor.{floor_of, number_of as carrier_number}
use Rattle.shop_floor.specs.Owning.{number_named}
use Rattle.shop_floor.specs.Rows.{freed, owner, forgets}
use Rattle.shop_floor.specs.Machines as shop
use Rattle.shop_floor.specs.Valid.{IsFloor}
use Rattle.shop_floor.proofs.Apart.{IsOnly, all_follows, found_only, found_passes, none_passes, unknown_all, named_so, has_its_name}
use Rattle.shop_floor.proofs.Belonging.{owner_changed}
use Rattle.shop_floor.proofs.Keeps.{row-keeps as shop_keeps}
use Rattle.substrate.specs.Tables.{processing_number}
use Rattle.process_job.specs.declared.job.Material.{Material}
use Rattle.process_job.specs.declared.job.ProcessJob.{ProcessJob}
use Rattle.substrate.specs.Record.{is_at_source, is_needing}
use Rattle.tool_jobs.specs.Jobs.{Jobs}
use Rattle.floor_model.specs.declared.tracked.Substrate.{Substrate}
use Rattle.floor_model.specs.Floor.{ToolFloor, with_shop, substrate_numbered, number_of}
use Rattle.floor_model.specs.Jobs.{is_carrier_of, is_slot_named, names_slot_of, can_join, is_in_use, is_carrier_here, is_material_here}
use Rattle.floor_model.specs.Machines.{floor_starts, floor_fired}
use Rattle.floor_model.specs.Substrates.{is_of, without_carrier}
use Rattle.floor_moves.specs.Floor as law
use Rattle.floor_moves.specs.Floor.{Loc, is_done as is_done_by_numbers}
use Rattle.floor_moves.specs.Agree.{Agree}
use Rattle.floor_moves.specs.Carriers.{HasEnded, forgotten}
use Rattle.floor_moves.proofs.Carrying.{forgotten-keeps}
use Rattle.place_laws.specs.Picture.{picture, of_one}
use Rattle.place_laws.specs.Sound.{Sound}
use Rattle.place_laws.proofs.Holding.{rising_distinct}
use Rattle.place_laws.proofs.Leaving.{swapped}
use Rattle.place_laws.proofs.Stays.{Stay, stay_same}
use Rattle.floor_laws.proofs.GrowTaken.{by_its_number}
use Rattle.floor_laws.proofs.RemAgree.{forgetting_agrees}
use Rattle.floor_laws.proofs.RemPlaces.{filter_all}
use Rattle.floor_laws.proofs.RemSound.{OwnerEnded, Kept, vacated_kept}
use Rattle.floor_laws.proofs.ShopAccess.{SameAccess, access_same}
use Rattle.owed_laws.specs.Owed.{owed_to}
use Rattle.owed_laws.specs.Undisturbed.{Undisturbed}
use Rattle.owed_laws.proofs.Agreeing.{agree-undisturbed, agree-owed}
use Rattle.owed_laws.proofs.Carrying.{forgotten-stays}
use Rattle.lot_laws.specs.Lot.{is_in_named_slot, first_naming, IsInJob, Waits, AtWork}
use Rattle.lot_laws.proofs.First.{any_alike, first_shop}
use Rattle.lot_laws.proofs.Orderly.{found_among_all}
use Rattle.lot_laws.proofs.Shopping.{vacated-works}
use Rattle.lot_laws.proofs.Shops.{same_use, shop-works}
use Rattle.lot_laws.proofs.Standing.{on_base, work-undisturbed}
use Rattle.lot_laws.proofs.Works.{WorksOn}
use Rattle.floor_laws.proofs.FloorRemoved.{owner_ended}
use Rattle.floor_laws.proofs.JobJoins.{use_number}

-- ---- lists

-- where those that are left out don't pass, as much passes
any_left : {A : Type 0} (q t : A → Bool) (xs : List A) → AllByRecursion (λ (x : A). q x ≡ false → t x ≡ false) xs → list_any t (filter q xs) ≡ list_any t xs
any_left q t [] all = refl
any_left q t (x ∷ xs) all = of (q x) refl (any_left q t xs all.1) where
  of : (b : Bool) → q x ≡ b → list_any t (filter q xs) ≡ list_any t xs → list_any t (if b then x ∷ filter q xs else filter q xs) ≡ (t x || list_any t xs)
  of true e rest = ap (λ (b : Bool). t x || b) rest
  of false e rest = rest ∙ sym (ap (λ (b : Bool). b || list_any t xs) (all.0 e))

-- a carrier of another name is found among the others
named_still : (name other : List ℕ) (cs : List Carrier) → bytes_eq name other ≡ false → carrier_named other (without name cs) ≡ carrier_named other cs
named_still name other [] apart = refl
named_still name other (c ∷ cs) apart = of (has_name name c) refl (named_still name other cs apart) where
  of : (b : Bool) → has_name name c ≡ b → carrier_named other (without name cs) ≡ carrier_named other cs → carrier_named other (if not b then c ∷ without name cs else without name cs) ≡ carrier_named other (c ∷ cs)
  of true e rest = rest ∙ sym (ap (λ (b : Bool). if b then Some c else carrier_named other cs) (missed (has_name other c) refl)) where
    missed : (b : Bool) → has_name other c ≡ b → b ≡ false
    missed false q = refl
    missed true q = sym ((bytes_eq-Decides name other).1 (sym (named_so name c e) ∙ named_so other c q)) ∙ apart
  of false e rest = ap (λ (o : Option Carrier). if has_name other c then Some c else o) rest

-- ---- the carrier goes with its substrates

module _ (number : ℕ) (planned : ℕ → List (List ℕ)) (counted : ℕ → Bool) (f : ToolFloor) (kept : Kept f) {before : Jobs} (e : AtWork number planned counted before f) (name : List ℕ) (c : Carrier) (found : carrier_named name f.shop.carriers ≡ Some c) (ends : HasEnded c.number (picture f)) (ps : List Port) (next : ℕ) where
  abbrev taken : ToolFloor
  taken = with_shop (floor_of ps (without name f.shop.carriers) next) (without_carrier (Some c.number) f)

  agrees : Agree (forgotten c.number (picture f)) (picture taken)
  agrees = forgetting_agrees f kept.base name c found ends kept.valid ps next

  -- it isn't one that is here
  not_here : is_carrier_here (Some c) ≡ true → ⊥
  not_here here = of ends where
    outer : (c.present ≡ true) × ((is_map_verified c.states.map && is_in_use c.states.access) ≡ true)
    outer = and_parts c.present (is_map_verified c.states.map && is_in_use c.states.access) here

    inner : (is_map_verified c.states.map ≡ true) × (is_in_use c.states.access ≡ true)
    inner = and_parts (is_map_verified c.states.map) (is_in_use c.states.access) outer.1

    own : carrier_numbered c.number f.shop.carriers ≡ Some c
    own = by_its_number f.shop kept.base.shop name c found

    of : HasEnded c.number (picture f) → ⊥
    of (inl over) =
        let less = use_number c.states.access inner.1 in
        let is : (picture f).access c.number ≡ access_number c.states.access = ap (of_one 0 (λ (x : Carrier). access_number x.states.access)) own in
        omega (arith, over, less, is)
    of (inr unread) = true≢false (sym inner.0 ∙ sym (ap (of_one false (λ (x : Carrier). is_map_verified x.states.map)) own) ∙ unread)

  -- what is here is so still
  material_here : (ms : List Material) → list_all (is_material_here f.shop) ms ≡ true → list_all (is_material_here taken.shop) ms ≡ true
  material_here [] g = refl
  material_here (m ∷ ms) g =
      let parts = and_parts (is_material_here f.shop m) (list_all (is_material_here f.shop) ms) g in
      both (is_material_here taken.shop m) (list_all (is_material_here taken.shop) ms) (of (bytes_eq name m.carrier) refl parts.0) (material_here ms parts.1)
    where
      of : (b : Bool) → bytes_eq name m.carrier ≡ b → is_carrier_here (carrier_named m.carrier f.shop.carriers) ≡ true → is_carrier_here (carrier_named m.carrier (without name f.shop.carriers)) ≡ true
      of false apart here = ap is_carrier_here (named_still name m.carrier f.shop.carriers apart) ∙ here
      of true same here =
          absurd (not_here (sym (ap is_carrier_here (ap (λ (n : List ℕ). carrier_named n f.shop.carriers) (sym ((bytes_eq-Decides name m.carrier).0 same)) ∙ found)) ∙ here))

  -- the carriers of other substrates stay
  carrier_same : (x : Substrate) → not (is_of c.number x) ≡ true → (other : List ℕ) → list_any (is_carrier_of other x.carrier) (without name f.shop.carriers) ≡ list_any (is_carrier_of other x.carrier) f.shop.carriers
  carrier_same x away other =
      any_left (λ (d : Carrier). not (has_name name d)) (is_carrier_of other x.carrier) f.shop.carriers
      (all_follows (IsOnly c) (λ (d : Carrier). not (has_name name d) ≡ false → is_carrier_of other x.carrier d ≡ false) f.shop.carriers missed (found_only (has_name name) f.shop.carriers c kept.base.shop.apart found))
    where
      missed : (d : Carrier) → IsOnly c d → not (has_name name d) ≡ false → is_carrier_of other x.carrier d ≡ false
      missed d only gone =
          let named : has_name name d ≡ true = not-false (has_name name d) gone in
          let same : d ≡ c = only (has_its_name c.name d (named_so name d named ∙ sym (named_so name c (found_passes (has_name name) f.shop.carriers c found)))) in
          ap (λ (y : Carrier). (y.number == x.carrier) && bytes_eq y.name other) same
          ∙ ap (λ (b : Bool). b && bytes_eq c.name other) (swapped x.carrier c.number (not-true (is_of c.number x) away))

  slot_same : (x : Substrate) → not (is_of c.number x) ≡ true → (j : ProcessJob) → is_in_named_slot j taken.shop x ≡ is_in_named_slot j f.shop x
  slot_same x away j = any_alike (names_slot_of taken.shop x) (names_slot_of f.shop x) j.material (λ m. ap (λ (b : Bool). b && is_slot_named m.slots x.slot) (carrier_same x away m.carrier))

  join_same : (x : Substrate) → not (is_of c.number x) ≡ true → (j : ProcessJob) → can_join j taken.shop x ≡ can_join j f.shop x
  join_same x away j = ap (λ (b : Bool). (is_at_source x.states.transport && is_needing x.states.processing) && ((x.job == 0) && b)) (slot_same x away j)

  -- the first job that names a slot
  first_same : (x : Substrate) → not (is_of c.number x) ≡ true → first_naming number taken x ≡ first_naming number f x
  first_same x away = first_shop number f x taken.shop (slot_same x away)

  -- those that are left
  was : (n : ℕ) (x : Substrate) → substrate_numbered n taken.substrates ≡ Some x → (substrate_numbered n f.substrates ≡ Some x) × (not (is_of c.number x) ≡ true)
  was n x there = found_among_all number_of (λ (s : Substrate). not (is_of c.number s)) n f.substrates x (rising_distinct 0 f.places.given f.substrates kept.base.rising) there

  -- one that is done stays so
  done_on : (n : ℕ) (x : Substrate) → substrate_numbered n taken.substrates ≡ Some x → is_done_by_numbers n (picture f) ≡ true → is_done_by_numbers n (picture taken) ≡ true
  done_on n x there done =
      let w = was n x there in
      let parts = and_parts (law.is_finished ((picture f).processing n)) (not (law.is_outside ((picture f).place_of n))) done in
      both (law.is_finished ((picture taken).processing n)) (not (law.is_outside ((picture taken).place_of n)))
      (ap law.is_finished (ap (of_one 0 (λ (s : Substrate). processing_number s.states.processing)) (there ∙ sym w.0)) ∙ parts.0)
      (ap (λ (l : Option Loc). not (law.is_outside l)) (agrees.place_of n) ∙ of ((picture f).carrier_of n == c.number) parts.1)
    where
      of : (b : Bool) → not (law.is_outside ((picture f).place_of n)) ≡ true → not (law.is_outside (if b then None else (picture f).place_of n)) ≡ true
      of true q = refl
      of false q = q

  stays : Undisturbed counted (forgotten c.number (picture f)) × (owed_to planned counted (forgotten c.number (picture f)) ≡ owed_to planned counted (picture f))
  stays = forgotten-stays planned counted (picture f) kept.valid (work-undisturbed number planned counted f (on_base f kept.base) e) c.number ends

  pub taken-works : WorksOn number planned counted before f (with_shop (floor_of ps (without name f.shop.carriers) next) (without_carrier (Some c.number) f))
  taken-works = (
    record {
      steers = e.steers;
      here = λ k j known left. material_here j.material (e.here k j known left);
      members = λ n is. e.members n (sym (agrees.jobs.is_member n) ∙ is);
      stands = λ n x there is. let w = was n x there in stands n x there w.1 (e.stands n x w.0 is);
      all = λ n k x j there known left can. let w = was n x there in e.all n k x j w.0 known left (sym (join_same x w.1 j) ∙ can);
      substrates = (agree-undisturbed (forgotten c.number (picture f)) (picture taken) agrees counted (forgotten-keeps (picture f) kept.valid c.number ends) stays.0).substrates;
    },
    refl,
    agree-owed (forgotten c.number (picture f)) (picture taken) agrees planned counted ∙ stays.1,
  ) where
    stands : (n : ℕ) (x : Substrate) → substrate_numbered n taken.substrates ≡ Some x → not (is_of c.number x) ≡ true → (is_done_by_numbers n (picture f) ≡ true) ⊎ (IsInJob number (planned n) x f ⊎ Waits number (planned n) x f) → (is_done_by_numbers n (picture taken) ≡ true) ⊎ (IsInJob number (planned n) x taken ⊎ Waits number (planned n) x taken)
    stands n x there away (inl done) = inl (done_on n x there done)
    stands n x there away (inr (inl its)) = inr (inl (its.0, its.1, first_same x away ∙ its.2, its.3))
    stands n x there away (inr (inr w)) = inr (inr (record { at = w.at; job = w.job; kept = w.kept; left = w.left; first = first_same x away ∙ w.first; goes_by = w.goes_by; queued = w.queued; joins = join_same x away w.job ∙ w.joins }))

-- ---- row 6 of table 7

module _ (number : ℕ) (planned : ℕ → List (List ℕ)) (counted : ℕ → Bool) (port : ℕ) (f : ToolFloor) (kept : Kept f) {before : Jobs} (e : AtWork number planned counted before f) where
  -- where the carriers stay
  ports-work : (ps : List Port) (cs : List Carrier) (next : ℕ) → cs ≡ f.shop.carriers → IsFloor (floor_of ps cs next) → WorksOn number planned counted before f (with_shop (floor_of ps cs next) f)
  ports-work ps cs next same valid = (
    shop-works number planned counted f kept.base e (floor_of ps cs next) (subst (λ (ds : List Carrier). Stay f.shop.carriers ds) (sym same) (stay_same f.shop.carriers)) valid
        (same_use f (floor_of ps cs next) (subst (λ (ds : List Carrier). SameAccess f.shop.carriers ds) (sym same) (access_same f.shop.carriers))),
    refl,
    refl,
  )

  -- the load ports behind it, and what is left
  abbrev ports_then : List Port
  ports_then = change_port port (ports.fires_row 7 6) (change_port port freed f.shop.ports)

  -- none is left out, where none has the name
  without_nobody : (name : List ℕ) → carrier_named name f.shop.carriers ≡ None → without name f.shop.carriers ≡ f.shop.carriers
  without_nobody name none =
      filter_all (λ (c : Carrier). not (has_name name c)) f.shop.carriers
      (all_follows (λ (c : Carrier). has_name name c ≡ false) (λ (c : Carrier). not (has_name name c) ≡ true) f.shop.carriers (λ c other. ap not other) (unknown_all name f.shop.carriers (none_passes (has_name name) f.shop.carriers none)))

  pub forgotten-works : floor_starts (firing 7 port 6) f ≡ true → OwnerEnded port f → WorksOn number planned counted before f (floor_fired (firing 7 port 6) f)
  forgotten-works starts ends = of (owner (port_numbered port f.shop.ports)) refl (shop_keeps (firing 7 port 6) f.shop starts kept.base.shop) where
    named : (name : List ℕ) → owner (port_numbered port f.shop.ports) ≡ Some name → (k : Option Carrier) → carrier_named name f.shop.carriers ≡ k → IsFloor (floor_of ports_then (without name f.shop.carriers) f.shop.next_carrier)
        → WorksOn number planned counted before f (with_shop (floor_of ports_then (without name f.shop.carriers) f.shop.next_carrier) (without_carrier (option_map carrier_number k) f))
    named name its None none valid = ports-work ports_then (without name f.shop.carriers) f.shop.next_carrier (without_nobody name none) valid
    named name its (Some c) found valid = taken-works number planned counted f kept e name c found (ends name c its found) ports_then f.shop.next_carrier

    of : (o : Option (List ℕ)) → owner (port_numbered port f.shop.ports) ≡ o → IsFloor (floor_of ports_then (forgets o f.shop.carriers) f.shop.next_carrier)
        → WorksOn number planned counted before f (with_shop (floor_of ports_then (forgets o f.shop.carriers) f.shop.next_carrier) (without_carrier (number_named o f.shop) f))
    of None is valid = ports-work ports_then f.shop.carriers f.shop.next_carrier refl valid
    of (Some name) is valid = named name is (carrier_named name f.shop.carriers) refl valid

-- ---- rows 5 of table 4 and 6 of table 7

-- what belongs to the port stays so behind the first
owner_stays : (port : ℕ) (f : ToolFloor) → owner (port_numbered port (floor_fired (firing 4 port 5) f).shop.ports) ≡ owner (port_numbered port f.shop.ports)
owner_stays zero f = refl
owner_stays (suc place) f = owner_changed (Some (record { 0 = suc place })) (suc place) (ports.fires_row 4 5) f.shop.ports (λ q. refl)

pub removed-works : (number : ℕ) (planned : ℕ → List (List ℕ)) (counted : ℕ → Bool) (port : ℕ) (f : ToolFloor) → Sound f → {before : Jobs} → AtWork number planned counted before f
    → floor_starts (firing 4 port 5) f ≡ true → floor_starts (firing 7 port 6) (floor_fired (firing 4 port 5) f) ≡ true → shop.floor_least f.shop ≡ None
    → WorksOn number planned counted before f (floor_fired (firing 7 port 6) (floor_fired (firing 4 port 5) f))
removed-works number planned counted port f sound e starts next rests =
    let g = floor_fired (firing 4 port 5) f in
    let first = vacated-works number planned counted f sound e port starts in
    let ends = owner_ended port f starts rests sound in
    let second = forgotten-works number planned counted port g (vacated_kept port f starts (record { base = sound.base; valid = sound.valid })) first.0 next (λ name c its found. ends name c (sym (owner_stays port f) ∙ its) found) in
    (second.0, second.1 ∙ first.1, second.2 ∙ first.2)
