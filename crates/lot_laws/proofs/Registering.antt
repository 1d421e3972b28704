-- A control job executes on where the substrates of a carrier are registered: no process job that is left in it names the carrier.
use Rattle.std.proofs.Common.{◌≡◌, ◌≤◌, ◌<◌, ℕ, zero, suc, ◌+◌, ◌==◌, Bool, true, false, if◌then◌else◌, not, ◌&&◌, List, [], ◌∷◌, ◌++◌, length, Option, Some, None, IsSomeAnd, refl, sym, ◌∙◌, ap, subst, ◌⊎◌, inl, inr, arith}
use Rattle.std.proofs.lemmas.Bool.{true≢false, and_parts}
use Rattle.std.proofs.lemmas.Bool.Decides.{Decides-eqb}
use Rattle.std.proofs.lemmas.Slice.Eq.{bytes_eq-Decides}
use Rattle.gem_tables.specs.Table.{firing}
use Rattle.gem_ids.specs.declared.numbers.LocId.TheVariants.{Slot}
use Rattle.gem_ids.specs.declared.numbers.PortNo.{PortNo}
use Rattle.gem_ids.specs.declared.numbers.SlotNo.{SlotNo}
use Rattle.gem_ids.specs.Names.{name_in_slot}
use Rattle.carrier.specs.declared.carrier.Carrier.{Carrier}
use Rattle.carrier.specs.Tables.{map_number, map_table}
use Rattle.carrier.specs.Record.{is_map_verified}
use Rattle.carrier.specs.Carriers as carriers
use Rattle.carrier.specs.Carriers.{carrier_named, carrier_numbered}
use Rattle.shop_floor.specs.Floor.{Floor}
use Rattle.shop_floor.specs.Machines as shop
use Rattle.shop_floor.specs.Machines.{carrier_starts}
use Rattle.shop_floor.specs.Valid.{ReadWherePresent, IsFloor}
use Rattle.shop_floor.proofs.Apart.{all_follows, found_only}
use Rattle.shop_floor.proofs.Keeps.{row-keeps as shop_keeps}
use Rattle.shop_floor.proofs.Present.{has_number, numbered_contained}
use Rattle.substrate.specs.Tables.{processing_number}
use Rattle.substrate.specs.Places.{registered}
use Rattle.process_job.specs.Jobs.{job_numbered}
use Rattle.tool_jobs.specs.Jobs.{Jobs}
use Rattle.process_job.specs.declared.job.ProcessJob.{ProcessJob}
use Rattle.floor_model.specs.declared.tracked.Substrate.{Substrate}
use Rattle.floor_model.specs.Floor.{ToolFloor, with_shop, substrate_numbered}
use Rattle.floor_model.specs.Jobs.{is_material_here, is_carrier_here, is_in_use, is_of_carrier, names_carrier, can_join}
use Rattle.floor_model.specs.Machines.{floor_fired}
use Rattle.floor_model.specs.Substrates.{can_register, first_substrate, registers_at, registers_slot, registers_slots, registers_at_port, registers_found, reaches_verified}
use Rattle.floor_moves.specs.Floor as law
use Rattle.floor_moves.specs.Floor.{Loc, is_done}
use Rattle.floor_moves.specs.Agree.{Agree}
use Rattle.floor_moves.specs.Carriers.{verified, registered as registered_by_numbers}
use Rattle.floor_moves.specs.Valid.{Valid}
use Rattle.floor_moves.proofs.Agreeing.{agree-keeps}
use Rattle.floor_moves.proofs.Carrying.{verified-keeps}
use Rattle.floor_moves.proofs.Registering.{registered-keeps}
use Rattle.floor_moves.proofs.Maps.{set_else}
use Rattle.place_laws.specs.Picture.{picture, of_one}
use Rattle.place_laws.specs.Standing.{IsCarried}
use Rattle.place_laws.specs.Sound.{Base, Sound}
use Rattle.place_laws.proofs.Holding.{found_number, true_of_found}
use Rattle.place_laws.proofs.Stays.{GoesOn, Stay, stay_numbered, stay-carried}
use Rattle.place_laws.proofs.Leaving.{still_verified}
use Rattle.picture_laws.proofs.Coming.{verifying_agrees}
use Rattle.floor_laws.proofs.JobSight.{none_some, some_same}
use Rattle.floor_laws.proofs.JobJoins.{both_pass}
use Rattle.floor_laws.proofs.RegSlots.{Filling, can, may, slot_agrees}
use Rattle.floor_laws.proofs.RegFilled.{slots_filled}
use Rattle.floor_laws.proofs.RegVerified.{jobs_stay, found_changed, Becomes, becomes}
use Rattle.floor_laws.proofs.ShopAccess.{map_access}
use Rattle.owed_laws.specs.Owed.{owed_to}
use Rattle.owed_laws.specs.Undisturbed.{Undisturbed}
use Rattle.owed_laws.proofs.Carrying.{registered-stays}
use Rattle.owed_laws.proofs.Agreeing.{agree-undisturbed, agree-owed}
use Rattle.queue_laws.specs.Started.{is_left_in}
use Rattle.lot_laws.specs.Lot.{IsInJob, Waits, Executes, AtWork}
use Rattle.lot_laws.proofs.Naming.{slot_names_carrier}
use Rattle.lot_laws.proofs.Standing.{joins_tell, work-undisturbed}
use Rattle.lot_laws.proofs.AtWork.{at_work_of}
use Rattle.lot_laws.proofs.Works.{WorksOn, works_execute}
use Rattle.lot_laws.proofs.Shops.{named_of, same_use, shop-works}

-- one that is found with one more behind is one of those before, or that one
pub found_either : (k : ℕ) (ss : List Substrate) (x y : Substrate) → substrate_numbered k (ss ++ x ∷ []) ≡ Some y → (substrate_numbered k ss ≡ Some y) ⊎ ((x.number ≡ k) × (y ≡ x))
found_either k [] x y e = of (x.number == k) refl e where
  of : (b : Bool) → (x.number == k) ≡ b → (if b then Some x else None) ≡ Some y → (substrate_numbered k [] ≡ Some y) ⊎ ((x.number ≡ k) × (y ≡ x))
  of true q f = inr ((Decides-eqb x.number k).0 q, sym (some_same x y f))
  of false q f = none_some y f
found_either k (s ∷ ss) x y e = of (s.number == k) e (found_either k ss x y) where
  of : (b : Bool) → (if b then Some s else substrate_numbered k (ss ++ x ∷ [])) ≡ Some y → (substrate_numbered k (ss ++ x ∷ []) ≡ Some y → (substrate_numbered k ss ≡ Some y) ⊎ ((x.number ≡ k) × (y ≡ x)))
      → ((if b then Some s else substrate_numbered k ss) ≡ Some y) ⊎ ((x.number ≡ k) × (y ≡ x))
  of true f later = inl f
  of false f later = later f

-- the carrier whose substrates are registered, as it is before its map is VERIFIED, and then; its port
module _ (number : ℕ) (planned : ℕ → List (List ℕ)) (counted : ℕ → Bool) (before : Jobs) (s : Floor) (valid : IsFloor s) (c d : Carrier) (port : PortNo) (found : carrier_numbered c.number s.carriers ≡ Some d) (present : d.present ≡ true) (is_read : is_map_verified d.states.map ≡ true) (at : d.port ≡ Some port) (named : d.name ≡ c.name) where
  abbrev Fills : ℕ → ToolFloor → Type 0
  Fills k f = Filling s valid c d port found present is_read at named k f

  -- no process job that is left names the carrier
  abbrev pub Unnamed : ToolFloor → Type 0
  Unnamed f = (k : ℕ) (j : ProcessJob) → job_numbered k f.jobs.process.kept ≡ Some j → is_left_in number j.id f.jobs ≡ true → names_carrier c.name j ≡ true → ⊥

  abbrev Keeps : ToolFloor → ToolFloor → Type 0
  Keeps f g = AtWork number planned counted before (with_shop s g) × (owed_to planned counted (picture (with_shop s g)) ≡ owed_to planned counted (picture (with_shop s f)))

  -- ---- one

  module _ (slot : SlotNo) (f : ToolFloor) (first : 1 ≤ slot.0) (last : slot.0 ≤ 25) (fill : Filling s valid c d port found present is_read at named slot.0 f) (e : AtWork number planned counted before (with_shop s f)) (unnamed : Unnamed f) where
    -- it stands undisturbed before
    u : Undisturbed counted (picture (with_shop s f))
    u = work-undisturbed number planned counted (with_shop s f) (record { shop = valid; carried = fill.carried; members = fill.members }) e

    abbrev new : Substrate
    new = first_substrate (f.places.given + 1) (name_in_slot c.name slot.0) c.number (Slot port slot)

    abbrev behind : ToolFloor
    behind = record f {
      places = registered (name_in_slot c.name slot.0) (Slot port slot) f.places;
      substrates = f.substrates ++ first_substrate (f.places.given + 1) (name_in_slot c.name slot.0) c.number (Slot port slot) ∷ [];
    }

    agrees : Agree (registered_by_numbers c.number port.0 slot.0 (picture (with_shop s f))) (picture (with_shop s behind))
    agrees = slot_agrees s valid c d port found present is_read at named slot f first last fill

    -- a counted one is another
    other : (k : ℕ) → counted k ≡ true → k ≡ f.places.given + 1 → ⊥
    other k is same = true≢false (sym is ∙ u.substrates.not_given k (omega (arith, same)))

    done_on : (k : ℕ) (y : Substrate) → substrate_numbered k f.substrates ≡ Some y → substrate_numbered k (f.substrates ++ first_substrate (f.places.given + 1) (name_in_slot c.name slot.0) c.number (Slot port slot) ∷ []) ≡ Some y → (k ≡ f.places.given + 1 → ⊥) → is_done k (picture (with_shop s f)) ≡ true → is_done k (picture (with_shop s behind)) ≡ true
    done_on k y was is apart done =
        ap (λ (p : ℕ). law.is_finished p && not (law.is_outside ((picture (with_shop s behind)).place_of k))) (ap (of_one 0 (λ (x : Substrate). processing_number x.states.processing)) is ∙ sym (ap (of_one 0 (λ (x : Substrate). processing_number x.states.processing)) was))
        ∙ ap (λ (l : Option Loc). law.is_finished ((picture (with_shop s f)).processing k) && not (law.is_outside l)) (agrees.place_of k ∙ set_else (f.places.given + 1) k (Some (law.slot port.0 slot.0)) (picture (with_shop s f)).place_of apart)
        ∙ done

    pub one-works : AtWork number planned counted before (with_shop s (record f { places = registered (name_in_slot c.name slot.0) (Slot port slot) f.places; substrates = f.substrates ++ first_substrate (f.places.given + 1) (name_in_slot c.name slot.0) c.number (Slot port slot) ∷ [] }))
        × (owed_to planned counted (picture (with_shop s (record f { places = registered (name_in_slot c.name slot.0) (Slot port slot) f.places; substrates = f.substrates ++ first_substrate (f.places.given + 1) (name_in_slot c.name slot.0) c.number (Slot port slot) ∷ [] }))) ≡ owed_to planned counted (picture (with_shop s f)))
    one-works = (
      record {
        steers = e.steers;
        here = e.here;
        members = λ k is. e.members k (sym (agrees.jobs.is_member k) ∙ is);
        stands = λ k y there is. stands k y there is (found_either k f.substrates new y there);
        all = λ k i y j there kept left can. takes k i y j kept left can (found_either k f.substrates new y there);
        substrates = (agree-undisturbed (registered_by_numbers c.number port.0 slot.0 (picture (with_shop s f))) (picture (with_shop s behind)) agrees counted (registered-keeps (picture (with_shop s f)) fill.by_numbers c.number port.0 slot.0 (may s valid c d port found present is_read at named slot f first last fill)) stays.0).substrates;
      },
      agree-owed (registered_by_numbers c.number port.0 slot.0 (picture (with_shop s f))) (picture (with_shop s behind)) agrees planned counted ∙ stays.1,
    ) where
      stays : Undisturbed counted (registered_by_numbers c.number port.0 slot.0 (picture (with_shop s f))) × (owed_to planned counted (registered_by_numbers c.number port.0 slot.0 (picture (with_shop s f))) ≡ owed_to planned counted (picture (with_shop s f)))
      stays = registered-stays planned counted (picture (with_shop s f)) fill.by_numbers u c.number port.0 slot.0

      on : (k : ℕ) (y : Substrate) → substrate_numbered k f.substrates ≡ Some y → substrate_numbered k (f.substrates ++ new ∷ []) ≡ Some y → counted k ≡ true → (is_done k (picture (with_shop s f)) ≡ true) ⊎ (IsInJob number (planned k) y (with_shop s f) ⊎ Waits number (planned k) y (with_shop s f))
          → (is_done k (picture (with_shop s behind)) ≡ true) ⊎ (IsInJob number (planned k) y (with_shop s behind) ⊎ Waits number (planned k) y (with_shop s behind))
      on k y was there is (inl done) = inl (done_on k y was there (other k is) done)
      on k y was there is (inr (inl its)) = inr (inl its)
      on k y was there is (inr (inr w)) = inr (inr (record { at = w.at; job = w.job; kept = w.kept; left = w.left; first = w.first; goes_by = w.goes_by; queued = w.queued; joins = w.joins }))

      stands : (k : ℕ) (y : Substrate) → substrate_numbered k (f.substrates ++ new ∷ []) ≡ Some y → counted k ≡ true → (substrate_numbered k f.substrates ≡ Some y) ⊎ ((new.number ≡ k) × (y ≡ new)) → (is_done k (picture (with_shop s behind)) ≡ true) ⊎ (IsInJob number (planned k) y (with_shop s behind) ⊎ Waits number (planned k) y (with_shop s behind))
      stands k y there is (inl was) = on k y was there is (e.stands k y was is)
      stands k y there is (inr q) = absurd (other k is (sym q.0))

      takes : (k i : ℕ) (y : Substrate) (j : ProcessJob) → job_numbered i f.jobs.process.kept ≡ Some j → is_left_in number j.id f.jobs ≡ true → can_join j s y ≡ true → (substrate_numbered k f.substrates ≡ Some y) ⊎ ((new.number ≡ k) × (y ≡ new)) → counted k ≡ true
      takes k i y j kept left can (inl was) = e.all k i y j was kept left can
      takes k i y j kept left can (inr q) =
          let names = slot_names_carrier j s new d valid found (joins_tell j (with_shop s f) new (ap (can_join j s) (sym q.1) ∙ can)).named in
          absurd (unnamed i j kept left (ap (λ (n : List ℕ). names_carrier n j) (sym named) ∙ names))

  -- ---- so many slots

  slot-works : (slot : SlotNo) (code : ℕ) (f : ToolFloor) → 1 ≤ slot.0 → slot.0 ≤ 25 → Fills slot.0 f → AtWork number planned counted before (with_shop s f) → Unnamed f → Keeps f (registers_slot c port slot.0 code f)
  slot-works slot code f first last fill e unnamed = by_code (code == 3) where
    by_can : (b : Bool) → Keeps f (if b then record f { places = registered (name_in_slot c.name slot.0) (Slot port slot) f.places; substrates = f.substrates ++ first_substrate (f.places.given + 1) (name_in_slot c.name slot.0) c.number (Slot port slot) ∷ [] } else f)
    by_can true = one-works slot f first last fill e unnamed
    by_can false = (e, refl)

    by_code : (b : Bool) → Keeps f (if b then registers_at (name_in_slot c.name slot.0) c.number (Slot port slot) f else f)
    by_code true = by_can (can_register (name_in_slot c.name slot.0) (Slot port slot) f.places)
    by_code false = (e, refl)

  jobs_same : (slot code : ℕ) (f : ToolFloor) → (registers_slot c port slot code f).jobs ≡ f.jobs
  jobs_same slot code f = by_code (code == 3) where
    by_can : (b : Bool) → (if b then record f { places = registered (name_in_slot c.name slot) (Slot port (record { 0 = slot })) f.places; substrates = f.substrates ++ first_substrate (f.places.given + 1) (name_in_slot c.name slot) c.number (Slot port (record { 0 = slot })) ∷ [] } else f).jobs ≡ f.jobs
    by_can true = refl
    by_can false = refl

    by_code : (b : Bool) → (if b then registers_at (name_in_slot c.name slot) c.number (Slot port (record { 0 = slot })) f else f).jobs ≡ f.jobs
    by_code true = by_can (can_register (name_in_slot c.name slot) (Slot port (record { 0 = slot })) f.places)
    by_code false = refl

  pub slots-work : (count k : ℕ) (codes : List ℕ) (f : ToolFloor) → 1 ≤ k → k + count ≤ 26 → Filling s valid c d port found present is_read at named k f → AtWork number planned counted before (with_shop s f) → Unnamed f
      → AtWork number planned counted before (with_shop s (registers_slots c port k count codes f)) × (owed_to planned counted (picture (with_shop s (registers_slots c port k count codes f))) ≡ owed_to planned counted (picture (with_shop s f)))
  slots-work zero k codes f first last fill e unnamed = (e, refl)
  slots-work (suc count) k [] f first last fill e unnamed = (e, refl)
  slots-work (suc count) k (code ∷ codes) f first last fill e unnamed =
      let one = slot-works (record { 0 = k }) code f first (omega (arith, last)) fill e unnamed in
      let then_fill = (slots_filled s valid c d port found present is_read at named 1 k (code ∷ []) f first (omega (arith, last)) fill).filling in
      let rest = slots-work count (k + 1) codes (registers_slot c port k code f) (omega (arith, first)) (omega (arith, last)) then_fill one.0
      (λ i j kept left names. unnamed i j (sym (ap (λ w. job_numbered i w.process.kept) (jobs_same k code f)) ∙ kept) (sym (ap (λ w. is_left_in number j.id w) (jobs_same k code f)) ∙ left) names) in
      (rest.0, rest.1 ∙ one.1)

-- ---- the carrier

-- ---- the row

module _ (number : ℕ) (planned : ℕ → List (List ℕ)) (counted : ℕ → Bool) (f : ToolFloor) (sound : Sound f) {before : Jobs} (e : AtWork number planned counted before f) (n row : ℕ) (reaches : reaches_verified row ≡ true) (starts : shop.floor_starts (firing 9 n row) f.shop ≡ true) where
  b : Base f
  b = sound.base

  abbrev change : Carrier → Carrier
  change c = carriers.fires_row 9 row c

  abbrev verified_shop : Floor
  verified_shop = shop.floor_fired (firing 9 n row) f.shop

  valid : IsFloor verified_shop
  valid = shop_keeps (firing 9 n row) f.shop starts b.shop

  goes : (c : Carrier) → c.present ≡ true → is_map_verified c.states.map ≡ true → GoesOn c (change c)
  goes c present verified = record { present = present; verified = still_verified row c.states.map verified; name = refl; port = refl }

  stay : Stay f.shop.carriers verified_shop.carriers
  stay = stay_numbered n change (λ c. refl) goes f.shop.carriers

  -- first the map is VERIFIED
  first_works : AtWork number planned counted before (with_shop verified_shop f)
  first_works = shop-works number planned counted f b e verified_shop stay valid (same_use f verified_shop (map_access f.shop n row))

  abbrev Goal : ToolFloor → Type 0
  Goal g = AtWork number planned counted before g × (owed_to planned counted (picture g) ≡ owed_to planned counted (picture f))

  module _ (c : Carrier) (found : carrier_numbered n f.shop.carriers ≡ Some c) (is : Becomes row c) (port : PortNo) (at : c.port ≡ Some port) where
    its_number : c.number ≡ n
    its_number = found_number (λ (x : Carrier). x.number) n f.shop.carriers c found

    -- none of its substrates is there yet
    below_one : (t : Substrate) → IsCarried f.shop.carriers t → t.carrier ≡ c.number → (slot : SlotNo) → t.slot ≡ Slot port slot → slot.0 < 1
    below_one t its same slot there =
        let equal : its.0 ≡ c = some_same its.0 c (sym its.1 ∙ ap (λ (k : ℕ). carrier_numbered k f.shop.carriers) (same ∙ its_number) ∙ found) in
        absurd (true≢false (sym its.2.verified ∙ ap (λ (x : Carrier). is_map_verified x.states.map) equal ∙ is.not_yet))

    changed_there : carrier_numbered c.number verified_shop.carriers ≡ Some (change c)
    changed_there = subst (λ (k : ℕ). carrier_numbered k verified_shop.carriers ≡ Some (change c)) (sym its_number) (found_changed n change f.shop.carriers c (λ d. refl) found)

    by_numbers : Valid (picture (with_shop verified_shop f))
    by_numbers = agree-keeps (verified n (picture f)) (picture (with_shop verified_shop f)) (verifying_agrees f n row c found is.then_is) (verified-keeps (picture f) n sound.valid)

    filling : Filling verified_shop valid c (change c) port changed_there is.here is.then_is at refl 1 f
    filling = record {
      carried = stay-carried f.shop.carriers verified_shop.carriers stay f.substrates b.carried;
      apart = b.apart;
      rising = b.rising;
      below = all_follows (IsCarried f.shop.carriers) (λ (t : Substrate). t.carrier ≡ c.number → (slot : SlotNo) → t.slot ≡ Slot port slot → slot.0 < 1) f.substrates below_one b.carried;
      same_ports = b.same_ports;
      modules = b.modules;
      places = b.places;
      held = b.held;
      numbered = b.jobs.numbered;
      given = b.jobs.given;
      members = jobs_stay f.shop.carriers verified_shop.carriers f.jobs f.substrates stay b.carried b.jobs.members;
      by_numbers = by_numbers;
    }

    -- no process job that is left names it, since its material is here
    unnamed : (k : ℕ) (j : ProcessJob) → job_numbered k f.jobs.process.kept ≡ Some j → is_left_in number j.id f.jobs ≡ true → names_carrier c.name j ≡ true → ⊥
    unnamed k j kept left names =
        let w = both_pass (is_of_carrier c.name) (is_material_here f.shop) j.material names (e.here k j kept left) in
        let same : w.one.carrier ≡ c.name = (bytes_eq-Decides w.one.carrier c.name).0 w.first in
        let there : carrier_named c.name f.shop.carriers ≡ Some c = named_of f.shop.carriers c n (found_only (λ (x : Carrier). x.number == n) f.shop.carriers c b.shop.apart found) found in
        let here : is_carrier_here (Some c) ≡ true = sym (ap is_carrier_here (ap (λ (i : List ℕ). carrier_named i f.shop.carriers) same ∙ there)) ∙ w.second in
        let read : is_map_verified c.states.map ≡ true = (and_parts (is_map_verified c.states.map) (is_in_use c.states.access) (and_parts c.present (is_map_verified c.states.map && is_in_use c.states.access) here).1).0 in
        true≢false (sym read ∙ is.not_yet)

    filled : Goal (with_shop verified_shop (registers_slots c port 1 25 c.map f))
    filled = slots-work number planned counted before verified_shop valid c (change c) port changed_there is.here is.then_is at refl 25 1 c.map f (omega arith) (omega arith) filling first_works unnamed

  at_port : (c : Carrier) → carrier_numbered n f.shop.carriers ≡ Some c → Becomes row c → (o : Option PortNo) → c.port ≡ o → Goal (with_shop verified_shop (registers_at_port o c f))
  at_port c found is None at = absurd (subst (λ (o : Option PortNo). IsSomeAnd o (λ (m : PortNo). (1 ≤ m.0) × (m.0 ≤ length f.shop.ports))) at (has_number f.shop c (numbered_contained n f.shop.carriers c found) is.here b.shop))
  at_port c found is (Some port) at = filled c found is port at

  at_carrier : (o : Option Carrier) → carrier_numbered n f.shop.carriers ≡ o → Goal (with_shop verified_shop (registers_found o f))
  at_carrier None found = absurd (let none : false ≡ true = sym (ap (carrier_starts map_number map_table (λ s. s.map) (λ to s. record s { map = to }) row) found) ∙ starts in cc)
  at_carrier (Some c) found =
      at_port c found
      (becomes row c (true_of_found (λ (x : Carrier). x.number) n ReadWherePresent f.shop.carriers c b.shop.read found) reaches (sym (ap (carrier_starts map_number map_table (λ s. s.map) (λ to s. record s { map = to }) row) found) ∙ starts))
      c.port refl

  -- the jobs are the same
  same_slots : (c : Carrier) (port : PortNo) (count k : ℕ) (codes : List ℕ) (g : ToolFloor) → (registers_slots c port k count codes g).jobs ≡ g.jobs
  same_slots c port zero k codes g = refl
  same_slots c port (suc count) k [] g = refl
  same_slots c port (suc count) k (code ∷ codes) g = same_slots c port count (k + 1) codes (registers_slot c port k code g) ∙ by_code (code == 3) where
    by_can : (b : Bool) → (if b then record g { places = registered (name_in_slot c.name k) (Slot port (record { 0 = k })) g.places; substrates = g.substrates ++ first_substrate (g.places.given + 1) (name_in_slot c.name k) c.number (Slot port (record { 0 = k })) ∷ [] } else g).jobs ≡ g.jobs
    by_can true = refl
    by_can false = refl

    by_code : (b : Bool) → (if b then registers_at (name_in_slot c.name k) c.number (Slot port (record { 0 = k })) g else g).jobs ≡ g.jobs
    by_code true = by_can (can_register (name_in_slot c.name k) (Slot port (record { 0 = k })) g.places)
    by_code false = refl

  same_found : (o : Option Carrier) → (registers_found o f).jobs ≡ f.jobs
  same_found None = refl
  same_found (Some c) = of c.port where
    of : (o : Option PortNo) → (registers_at_port o c f).jobs ≡ f.jobs
    of None = refl
    of (Some port) = same_slots c port 25 1 c.map f

  -- rows 1 and 3 of table 9
  pub registration-works : WorksOn number planned counted before f (floor_fired (firing 9 n row) f)
  registration-works =
      subst (λ (t : Bool). WorksOn number planned counted before f (with_shop verified_shop (if t then registers_found (carrier_numbered n f.shop.carriers) f else f))) (sym reaches)
      (let on = at_carrier (carrier_numbered n f.shop.carriers) refl in (on.0, same_found (carrier_numbered n f.shop.carriers), on.1))

-- so it executes on behind them
pub registration-executes : (number : ℕ) (planned : ℕ → List (List ℕ)) (counted : ℕ → Bool) (f : ToolFloor) → Sound f → Executes number planned counted f → (n row : ℕ) → reaches_verified row ≡ true → shop.floor_starts (firing 9 n row) f.shop ≡ true
    → Executes number planned counted (floor_fired (firing 9 n row) f) × (owed_to planned counted (picture (floor_fired (firing 9 n row) f)) ≡ owed_to planned counted (picture f))
registration-executes number planned counted f sound e n row reaches starts =
    works_execute number planned counted f (floor_fired (firing 9 n row) f) e (registration-works number planned counted f sound (at_work_of number planned counted f e) n row reaches starts)
