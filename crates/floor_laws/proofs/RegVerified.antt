-- Rows 1 and 3 of table 9 keep what holds: the substrates of the carrier are registered, each of them.
use Rattle.std.proofs.Common.{◌≡◌, ◌≤◌, ◌<◌, ℕ, zero, suc, ◌+◌, ◌==◌, Bool, true, false, not, ◌&&◌, if◌then◌else◌, List, [], ◌∷◌, length, Option, Some, None, IsSomeAnd, refl, sym, ◌∙◌, ap, subst, arith}
use Rattle.std.specs.List.{AllByRecursion, list_any}
use Rattle.std.proofs.lemmas.Bool.{true≢false, and_parts}
use Rattle.gem_tables.specs.Table.{firing, after, is_among}
use Rattle.gem_ids.specs.declared.numbers.LocId.TheVariants.{Slot}
use Rattle.gem_ids.specs.declared.numbers.PortNo.{PortNo}
use Rattle.gem_ids.specs.declared.numbers.SlotNo.{SlotNo}
use Rattle.gem_ids.specs.Names.{name_in_slot}
use Rattle.carrier.specs.declared.carrier.Carrier.{Carrier}
use Rattle.carrier.specs.declared.record.IdState.{IdState}
use Rattle.carrier.specs.declared.record.MapState.{MapState}
use Rattle.carrier.specs.declared.record.MapState.TheVariants as slots
use Rattle.carrier.specs.Tables.{map_number, map_table}
use Rattle.carrier.specs.Record.{is_id_not_read, is_map_not_read, is_map_verified}
use Rattle.carrier.specs.Wants.{is_verified}
use Rattle.carrier.specs.Carriers as carriers
use Rattle.carrier.specs.Carriers.{carrier_numbered, change_numbered, is_usable, is_host_map}
use Rattle.shop_floor.specs.Floor.{Floor}
use Rattle.shop_floor.specs.Machines as shop
use Rattle.shop_floor.specs.Machines.{carrier_starts}
use Rattle.shop_floor.specs.Valid.{ReadWherePresent, IsFloor}
use Rattle.shop_floor.proofs.Apart.{all_both, all_follows}
use Rattle.shop_floor.proofs.Cases.{starts_at_carrier}
use Rattle.shop_floor.proofs.Keeps.{row-keeps as shop_keeps}
use Rattle.shop_floor.proofs.Numbers.{all_at_number}
use Rattle.shop_floor.proofs.Present.{has_number, numbered_contained}
use Rattle.tool_jobs.specs.Jobs.{Jobs}
use Rattle.floor_model.specs.declared.tracked.Substrate.{Substrate}
use Rattle.floor_model.specs.Floor.{ToolFloor, with_shop}
use Rattle.floor_model.specs.Jobs.{names_carrier}
use Rattle.floor_model.specs.Machines.{floor_starts, floor_fired}
use Rattle.floor_model.specs.Substrates.{reaches_verified, registers_at_port, registers_found, registers_slots}
use Rattle.floor_moves.specs.Carriers.{verified}
use Rattle.floor_moves.specs.Valid.{Valid}
use Rattle.floor_moves.proofs.Agreeing.{agree-keeps}
use Rattle.floor_moves.proofs.Carrying.{verified-keeps}
use Rattle.place_laws.specs.Picture.{picture}
use Rattle.place_laws.specs.Ports.{AtPorts}
use Rattle.place_laws.specs.Standing.{IsCarried, is_that_of, is_registered, AreRegistered, code_of}
use Rattle.place_laws.specs.Sound.{IsOfJob, IsInItsJob, Base, Sound}
use Rattle.place_laws.proofs.UnloadRows.{map-unloading}
use Rattle.place_laws.proofs.Holding.{found_number, true_of_found}
use Rattle.place_laws.proofs.Stays.{GoesOn, Stay, stay_numbered, stay-carried}
use Rattle.place_laws.proofs.Leaving.{still_verified}
use Rattle.place_laws.proofs.PortsKept.{carrier-at-ports, states_left}
use Rattle.picture_laws.proofs.Coming.{verifying_agrees}
use Rattle.floor_laws.proofs.RegSlots.{Filling}
use Rattle.floor_laws.proofs.RegFilled.{Filled, slots_filled}

-- ---- carriers that go on

-- a substrate is in its job still, where its carrier goes on
pub job_stays : (cs ds : List Carrier) (w : Jobs) → Stay cs ds → (s : Substrate) → IsCarried cs s → IsInItsJob cs w s → IsInItsJob ds w s
job_stays cs ds w stay s its in_job j is = record {
  begun = old.begun;
  carrier = there.0;
  its = there.1;
  named = ap (λ (name : List ℕ). names_carrier name j) (there.2.name ∙ ap (λ (x : Carrier). x.name) one) ∙ old.named;
} where
  old : IsOfJob cs s j
  old = in_job j is

  one : its.0 ≡ old.carrier
  one = let both : Some its.0 ≡ Some old.carrier = sym its.1 ∙ old.its in cc

  there : (d : Carrier) × (carrier_numbered s.carrier ds ≡ Some d) × GoesOn its.0 d
  there = stay s.carrier its.0 its.1 its.2.present its.2.verified

-- each is
pub jobs_stay : (cs ds : List Carrier) (w : Jobs) (ss : List Substrate) → Stay cs ds → AllByRecursion (IsCarried cs) ss → AllByRecursion (IsInItsJob cs w) ss → AllByRecursion (IsInItsJob ds w) ss
jobs_stay cs ds w ss stay carried members =
    all_follows (λ (s : Substrate). IsCarried cs s × IsInItsJob cs w s) (IsInItsJob ds w) ss (λ s both. job_stays cs ds w stay s both.0 both.1)
    (all_both (IsCarried cs) (IsInItsJob cs w) ss carried members)

-- the carrier that changes is found so
pub found_changed : (n : ℕ) (change : Carrier → Carrier) (cs : List Carrier) (c : Carrier) → ((d : Carrier) → (change d).number ≡ d.number) → carrier_numbered n cs ≡ Some c → carrier_numbered n (change_numbered n change cs) ≡ Some (change c)
found_changed n change [] c keeps e = absurd (cc)
found_changed n change (x ∷ xs) c keeps e = of (x.number == n) refl e (found_changed n change xs c keeps) where
  of : (b : Bool) → (x.number == n) ≡ b → (if b then Some x else carrier_numbered n xs) ≡ Some c → (carrier_numbered n xs ≡ Some c → carrier_numbered n (change_numbered n change xs) ≡ Some (change c)) → carrier_numbered n (if b then change x ∷ xs else x ∷ change_numbered n change xs) ≡ Some (change c)
  of true is f rest =
      let same : x ≡ c = cc in
      ap (λ (b : Bool). if b then Some (change x) else carrier_numbered n xs) (ap (λ (k : ℕ). k == n) (keeps x) ∙ is) ∙ ap (λ (y : Carrier). Some (change y)) same
  of false is f rest = ap (λ (b : Bool). if b then Some x else carrier_numbered n (change_numbered n change xs)) is ∙ rest f

-- ---- the carrier

-- a carrier whose map becomes VERIFIED: it wasn't, and it is present
pub record Becomes (row : ℕ) (c : Carrier) : Type 0 where
  pub not_yet : is_map_verified c.states.map ≡ false
  pub then_is : is_map_verified (after map_number map_table row c.states.map) ≡ true
  pub here : c.present ≡ true

-- rows 1 and 2 start where the map is NOT READ
not_read : (m : MapState) → is_among map_number (slots.NotRead ∷ []) m ≡ true → m ≡ slots.NotRead
not_read slots.NotRead e = refl
not_read _ e = absurd (cc)

-- rows 3 and 4 start where it waits
waits : (m : MapState) → is_among map_number (slots.WaitingForHost ∷ []) m ≡ true → m ≡ slots.WaitingForHost
waits slots.WaitingForHost e = refl
waits _ e = absurd (cc)

-- so the carrier was read
read_now : (s : IdState) (m : MapState) → m ≡ slots.WaitingForHost → not (is_id_not_read s && is_map_not_read m) ≡ true
read_now s m is = ap (λ (x : MapState). not (is_id_not_read s && is_map_not_read x)) is ∙ of (is_id_not_read s) where
  of : (b : Bool) → not (b && false) ≡ true
  of true = refl
  of false = refl

-- rows 1 and 3 are such
pub becomes : (row : ℕ) (c : Carrier) → ReadWherePresent c → reaches_verified row ≡ true → carrier_starts map_number map_table (λ s. s.map) (λ to s. record s { map = to }) row (Some c) ≡ true → Becomes row c
becomes row c reads reaches starts =
    starts_at_carrier map_number map_table (λ s. s.map) (λ to s. record s { map = to }) (λ (r : ℕ). reaches_verified r ≡ true → Becomes r c) c row (
      (λ among wants reaches. let is = not_read c.states.map among in record { not_yet = ap is_map_verified is; then_is = ap (λ (m : MapState). is_map_verified (after map_number map_table 1 m)) is; here = (and_parts c.present _ (and_parts (is_verified c) (is_usable c.map && is_host_map c.map c.host_map) wants).0).0 }),
      (
        (λ among wants reaches. absurd (true≢false (sym reaches))),
        (
          (λ among wants reaches. let is = waits c.states.map among in record { not_yet = ap is_map_verified is; then_is = ap (λ (m : MapState). is_map_verified (after map_number map_table 3 m)) is; here = reads (read_now c.states.id c.states.map is) }),
          ((λ among wants reaches. absurd (true≢false (sym reaches))), tt),
        ),
      ),
    )
    starts reaches

-- ---- the row

module _ (f : ToolFloor) (n row : ℕ) (reaches : reaches_verified row ≡ true) (starts : shop.floor_starts (firing 9 n row) f.shop ≡ true) (sound : Sound f) where
  -- what holds of the rest
  b : Base f
  b = sound.base

  -- the carrier behind it, and the load ports and carriers
  abbrev change : Carrier → Carrier
  change c = carriers.fires_row 9 row c

  abbrev behind : Floor
  behind = shop.floor_fired (firing 9 n row) f.shop

  valid : IsFloor behind
  valid = shop_keeps (firing 9 n row) f.shop starts b.shop

  ports : AtPorts behind
  ports = carrier-at-ports n (carriers.fires_row 9 row) f.shop (states_left 9 row) sound.ports

  goes : (c : Carrier) → c.present ≡ true → is_map_verified c.states.map ≡ true → GoesOn c (change c)
  goes c present verified = record { present = present; verified = still_verified row c.states.map verified; name = refl; port = refl }

  stay : Stay f.shop.carriers behind.carriers
  stay = stay_numbered n change (λ c. refl) goes f.shop.carriers

  module _ (c : Carrier) (found : carrier_numbered n f.shop.carriers ≡ Some c) (is : Becomes row c) (port : PortNo) (at : c.port ≡ Some port) where
    number : c.number ≡ n
    number = found_number (λ (x : Carrier). x.number) n f.shop.carriers c found

    -- none of its substrates is there yet
    below_one : (t : Substrate) → IsCarried f.shop.carriers t → t.carrier ≡ c.number → (slot : SlotNo) → t.slot ≡ Slot port slot → slot.0 < 1
    below_one t its same slot there =
        let one : Some its.0 ≡ Some c = sym its.1 ∙ ap (λ (k : ℕ). carrier_numbered k f.shop.carriers) (same ∙ number) ∙ found in
        let equal : its.0 ≡ c = cc in
        let verified : is_map_verified c.states.map ≡ true = ap (λ (x : Carrier). is_map_verified x.states.map) (sym equal) ∙ its.2.verified in
        let not_yet = is.not_yet in
        absurd (cc)

    changed_there : carrier_numbered c.number behind.carriers ≡ Some (change c)
    changed_there = subst (λ (k : ℕ). carrier_numbered k behind.carriers ≡ Some (change c)) (sym number) (found_changed n change f.shop.carriers c (λ d. refl) found)

    -- the map is VERIFIED by numbers
    by_numbers : Valid (picture (with_shop behind f))
    by_numbers = agree-keeps (verified n (picture f)) (picture (with_shop behind f)) (verifying_agrees f n row c found is.then_is) (verified-keeps (picture f) n sound.valid)

    filling : Filling behind valid c (change c) port changed_there is.here is.then_is at refl 1 f
    filling = record {
      carried = stay-carried f.shop.carriers behind.carriers stay f.substrates b.carried;
      apart = b.apart;
      rising = b.rising;
      below = all_follows (IsCarried f.shop.carriers) (λ (t : Substrate). t.carrier ≡ c.number → (slot : SlotNo) → t.slot ≡ Slot port slot → slot.0 < 1) f.substrates below_one b.carried;
      same_ports = b.same_ports;
      modules = b.modules;
      places = b.places;
      held = b.held;
      numbered = b.jobs.numbered;
      given = b.jobs.given;
      members = jobs_stay f.shop.carriers behind.carriers f.jobs f.substrates stay b.carried b.jobs.members;
      by_numbers = by_numbers;
    }

    abbrev full : ToolFloor
    full = registers_slots c port 1 25 c.map f

    filled : Filled behind valid c (change c) port changed_there is.here is.then_is at refl 1 25 c.map f full
    filled = slots_filled behind valid c (change c) port changed_there is.here is.then_is at refl 25 1 c.map f (omega arith) (omega arith) filling

    -- each slot of the carrier is registered
    own_registered : AreRegistered full.substrates (change c)
    own_registered v other slot there last code = of slot.0 refl code where
      ports_same : other ≡ port
      ports_same = let both : Some other ≡ Some port = sym there ∙ at in cc

      of : (k : ℕ) → slot.0 ≡ k → code_of k c.map ≡ Some 3 → is_registered full.substrates (change c) other slot ≡ true
      of zero is e = absurd (cc)
      of (suc i) is e =
          let less : i < 25 = omega (arith, last, is) in
          let same : 1 + i ≡ slot.0 = omega (arith, is) in
          let one = filled.all i less e in
          let here : list_any (is_that_of c.number (name_in_slot c.name slot.0) (Slot port slot)) full.substrates ≡ true = subst (λ (m : ℕ). list_any (is_that_of c.number (name_in_slot c.name m) (Slot port (record { 0 = m }))) full.substrates ≡ true) same one in
          subst (λ (p : PortNo). list_any (is_that_of c.number (name_in_slot c.name slot.0) (Slot p slot)) full.substrates ≡ true) (sym ports_same) here

    grown : (d : Carrier) → AreRegistered f.substrates d → AreRegistered full.substrates d
    grown d are v p slot there last code = filled.grows _ (are v p slot there last code)

    only_own : (d : Carrier) → carrier_numbered n f.shop.carriers ≡ Some d → AreRegistered full.substrates (change d)
    only_own d there = let one : Some c ≡ Some d = sym found ∙ there in let equal : c ≡ d = cc in subst (λ (x : Carrier). AreRegistered full.substrates (change x)) equal own_registered

    verified_sound : Sound (with_shop behind full)
    verified_sound = record {
      base = record {
        shop = valid;
        carried = filled.filling.carried;
        registered = all_at_number (AreRegistered full.substrates) n change f.shop.carriers (λ d there are. only_own d there) (all_follows (AreRegistered f.substrates) (AreRegistered full.substrates) f.shop.carriers grown b.registered);
        apart = filled.filling.apart;
        rising = filled.filling.rising;
        same_ports = filled.filling.same_ports;
        modules = filled.filling.modules;
        places = filled.filling.places;
        held = filled.filling.held;
        jobs = record { numbered = filled.filling.numbered; given = filled.filling.given; members = filled.filling.members };
      };
      ports = ports;
      unloading = map-unloading f.shop n row starts sound.unloading;
      valid = filled.filling.by_numbers;
    }

  at_port : (c : Carrier) → carrier_numbered n f.shop.carriers ≡ Some c → Becomes row c → (o : Option PortNo) → c.port ≡ o → Sound (with_shop behind (registers_at_port o c f))
  at_port c found is None at = absurd (subst (λ (o : Option PortNo). IsSomeAnd o (λ (m : PortNo). (1 ≤ m.0) × (m.0 ≤ length f.shop.ports))) at (has_number f.shop c (numbered_contained n f.shop.carriers c found) is.here b.shop))
  at_port c found is (Some port) at = verified_sound c found is port at

  at_carrier : (o : Option Carrier) → carrier_numbered n f.shop.carriers ≡ o → Sound (with_shop behind (registers_found o f))
  at_carrier None found = absurd (let none : false ≡ true = sym (ap (carrier_starts map_number map_table (λ s. s.map) (λ to s. record s { map = to }) row) found) ∙ starts in cc)
  at_carrier (Some c) found =
      at_port c found
      (becomes row c (true_of_found (λ (x : Carrier). x.number) n ReadWherePresent f.shop.carriers c b.shop.read found) reaches (sym (ap (carrier_starts map_number map_table (λ s. s.map) (λ to s. record s { map = to }) row) found) ∙ starts))
      c.port refl

  slot_sound_by : Sound (floor_fired (firing 9 n row) f)
  slot_sound_by = subst (λ (t : Bool). Sound (with_shop behind (if t then registers_found (carrier_numbered n f.shop.carriers) f else f))) (sym reaches) (at_carrier (carrier_numbered n f.shop.carriers) refl)

-- rows 1 and 3 of table 9
pub slot_sound : (f : ToolFloor) (n row : ℕ) → reaches_verified row ≡ true → floor_starts (firing 9 n row) f ≡ true → Sound f → Sound (floor_fired (firing 9 n row) f)
slot_sound f n row reaches starts sound = slot_sound_by f n row reaches starts sound
