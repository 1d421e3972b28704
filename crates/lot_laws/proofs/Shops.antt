-- A control job executes on where the load ports and the carriers change: the carriers of substrates stay, and those that a process job
-- names are NOT ACCESSED or IN ACCESS still.
use Rattle.std.proofs.Common.{◌≡◌, ◌≤◌, ℕ, ◌==◌, Bool, true, false, if◌then◌else◌, not, ◌&&◌, ◌||◌, List, [], ◌∷◌, Option, Some, None, bytes_eq, refl, sym, ◌∙◌, ap, subst, ◌⊎◌, inl, inr, arith}
use Rattle.std.specs.List.{AllByRecursion, list_any, list_all}
use Rattle.std.proofs.lemmas.Bool.{true≢false, and_parts, not-true, or_right}
use Rattle.std.proofs.lemmas.Bool.Decides.{Decides-eqb}
use Rattle.std.proofs.lemmas.Slice.Eq.{bytes_eq-Decides}
use Rattle.gem_tables.specs.Table.{is_one_of, firing}
use Rattle.gem_tables.specs.declared.firing.Firing.{Firing}
use Rattle.floor_model.proofs.EachTable.{starts_cases}
use Rattle.gem_tables.proofs.Rows.{both}
use Rattle.carrier.specs.declared.carrier.Carrier.{Carrier}
use Rattle.carrier.specs.declared.record.Accessing.{Accessing}
use Rattle.carrier.specs.declared.record.Accessing.TheVariants as access
use Rattle.carrier.specs.Tables.{access_number}
use Rattle.carrier.specs.Record.{is_map_verified}
use Rattle.carrier.specs.Carriers as carriers
use Rattle.carrier.specs.Carriers.{has_name, carrier_named, carrier_numbered}
use Rattle.shop_floor.specs.Floor.{Floor, with_carrier}
use Rattle.shop_floor.specs.Machines as shop
use Rattle.shop_floor.specs.Valid.{IsFloor}
use Rattle.shop_floor.proofs.Apart.{IsOnly, found_only, found_passes, has_its_name, named_so}
use Rattle.shop_floor.proofs.Keeps.{row-keeps as shop_keeps, accessing-keeps}
use Rattle.substrate.specs.Record.{is_at_source, is_needing}
use Rattle.process_job.specs.Jobs.{job_numbered}
use Rattle.tool_jobs.specs.Jobs.{Jobs}
use Rattle.process_job.specs.declared.job.Material.{Material}
use Rattle.process_job.specs.declared.job.ProcessJob.{ProcessJob}
use Rattle.floor_model.specs.declared.tracked.Substrate.{Substrate}
use Rattle.floor_model.specs.Floor.{ToolFloor, with_shop, substrate_numbered}
use Rattle.floor_model.specs.Jobs.{is_carrier_of, is_slot_named, names_slot_of, can_join, is_in_use, is_carrier_here, is_material_here, is_here, names_carrier, is_any_of_carrier}
use Rattle.floor_model.specs.Machines.{floor_starts, floor_fired, accessing_starts}
use Rattle.floor_model.specs.Substrates.{reaches_verified, registers_found}
use Rattle.floor_moves.specs.Floor.{is_done}
use Rattle.place_laws.specs.Picture.{picture, of_one}
use Rattle.place_laws.specs.Sound.{Base, Sound}
use Rattle.place_laws.proofs.Stays.{Stay}
use Rattle.place_laws.proofs.Leaving.{Leaves}
use Rattle.place_laws.proofs.Holding.{kept_there, its_carrier}
use Rattle.place_laws.proofs.ShopRows.{is_gentle, transfer_leaves, mode_leaves, reservation_leaves, association_leaves, id_leaves, map_leaves, accessing_leaves}
use Rattle.place_laws.proofs.PortsKept.{is_plain_row}
use Rattle.floor_laws.proofs.JobSight.{none_some, some_same}
use Rattle.floor_laws.proofs.JobSays.{any_found}
use Rattle.floor_laws.proofs.GrowTaken.{by_its_number}
use Rattle.floor_laws.proofs.ShopAccess.{SameAccess, found_numbered, transfer_access, mode_access, reservation_access, association_access, id_access, map_access}
use Rattle.floor_laws.proofs.ShopTables.{is_shop_row, MayAccess, may_access, takes_none}
use Rattle.owed_laws.specs.Owed.{owed_to}
use Rattle.lot_laws.specs.Lot.{is_in_named_slot, first_naming, IsInJob, Waits, Executes, AtWork}
use Rattle.lot_laws.proofs.Standing.{on_base, carried, work-jobs}
use Rattle.lot_laws.proofs.First.{any_alike, first_shop}
use Rattle.lot_laws.proofs.AtWork.{at_work_of}
use Rattle.lot_laws.proofs.Works.{WorksOn, works_execute}
use Rattle.std.proofs.Math.Bool.{or-false}
use Rattle.floor_laws.proofs.JobJoins.{use_number, name_there}

-- ---- lists

-- tests of which each follows from the other
same_test : (a b : Bool) → (a ≡ true → b ≡ true) → (b ≡ true → a ≡ true) → a ≡ b
same_test true b f g = sym (f refl)
same_test false true f g = g refl
same_test false false f g = refl

-- the one of a number is the one of its name
pub named_of : (cs : List Carrier) (d : Carrier) (k : ℕ) → AllByRecursion (IsOnly d) cs → carrier_numbered k cs ≡ Some d → carrier_named d.name cs ≡ Some d
named_of [] d k only e = none_some d e
named_of (x ∷ xs) d k only e = of (has_name d.name x) refl (x.number == k) e (named_of xs d k only.1) where
  of : (a : Bool) → has_name d.name x ≡ a → (b : Bool) → (if b then Some x else carrier_numbered k xs) ≡ Some d → (carrier_numbered k xs ≡ Some d → carrier_named d.name xs ≡ Some d) → (if a then Some x else carrier_named d.name xs) ≡ Some d
  of true q b f later = ap (λ (y : Carrier). Some y) (only.0 q)
  of false q true f later = absurd (true≢false (sym (has_its_name d.name x (ap (λ (y : Carrier). y.name) (some_same x d f))) ∙ q))
  of false q false f later = later f

-- ---- states of accessing

in_use : (a : Accessing) → access_number a ≤ 1 → is_in_use a ≡ true
in_use access.NotAccessed l = refl
in_use access.InAccess l = refl
in_use _ l = absurd (omega (arith, l))

-- carriers that a process job names, and that are NOT ACCESSED or IN ACCESS, are so behind a change
abbrev pub KeepUse : ToolFloor → Floor → Type 0
KeepUse f s = (k : ℕ) (c d : Carrier) → carrier_numbered k f.shop.carriers ≡ Some c → c.present ≡ true → carrier_numbered k s.carriers ≡ Some d → is_any_of_carrier c.name f.jobs ≡ true
    → access_number c.states.access ≤ 1 → access_number d.states.access ≤ 1

-- so they are where each is found in the same state
pub same_use : (f : ToolFloor) (s : Floor) → SameAccess f.shop.carriers s.carriers → KeepUse f s
same_use f s same k c d found present there named less =
    let w = same k c found present in
    let one : d ≡ w.0 = some_same d w.0 (sym there ∙ w.1) in
    subst (λ (a : ℕ). a ≤ 1) (sym (ap (λ (x : Carrier). access_number x.states.access) one ∙ w.2)) less

module _ (number : ℕ) (planned : ℕ → List (List ℕ)) (counted : ℕ → Bool) (f : ToolFloor) (h : Base f) {before : Jobs} (e : AtWork number planned counted before f) (s : Floor) (stay : Stay f.shop.carriers s.carriers) (valid : IsFloor s) (keep : KeepUse f s) where
  -- ---- the slots that are named

  carrier_same : (n : ℕ) (x : Substrate) → substrate_numbered n f.substrates ≡ Some x → (name : List ℕ) → list_any (is_carrier_of name x.carrier) s.carriers ≡ list_any (is_carrier_of name x.carrier) f.shop.carriers
  carrier_same n x found name =
      let c = carried f (on_base f h) n x found in
      let d = stay x.carrier c.0 c.1 c.2.present c.2.verified in
      same_test _ _
      (λ q. let its = name_there name x.carrier 1 s.next_carrier s.carriers d.0 valid.rising q d.1 in there f.shop.carriers c.0 c.1 (sym d.2.name ∙ its))
      (λ q. let its = name_there name x.carrier 1 f.shop.next_carrier f.shop.carriers c.0 h.shop.rising q c.1 in there s.carriers d.0 d.1 (d.2.name ∙ its))
    where
      there : (cs : List Carrier) (y : Carrier) → carrier_numbered x.carrier cs ≡ Some y → y.name ≡ name → list_any (is_carrier_of name x.carrier) cs ≡ true
      there cs y q its =
          any_found (λ (z : Carrier). z.number == x.carrier) (is_carrier_of name x.carrier) cs y q
          (both (y.number == x.carrier) (bytes_eq y.name name) (found_passes (λ (z : Carrier). z.number == x.carrier) cs y q) ((bytes_eq-Decides y.name name).1 its))

  slot_same : (n : ℕ) (x : Substrate) → substrate_numbered n f.substrates ≡ Some x → (j : ProcessJob) → is_in_named_slot j s x ≡ is_in_named_slot j f.shop x
  slot_same n x found j = any_alike (names_slot_of s x) (names_slot_of f.shop x) j.material (λ m. ap (λ (b : Bool). b && is_slot_named m.slots x.slot) (carrier_same n x found m.carrier))

  join_same : (n : ℕ) (x : Substrate) → substrate_numbered n f.substrates ≡ Some x → (j : ProcessJob) → can_join j s x ≡ can_join j f.shop x
  join_same n x found j = ap (λ (b : Bool). (is_at_source x.states.transport && is_needing x.states.processing) && ((x.job == 0) && b)) (slot_same n x found j)

  -- the first job that names a slot
  first_same : (n : ℕ) (x : Substrate) → substrate_numbered n f.substrates ≡ Some x → first_naming number (with_shop s f) x ≡ first_naming number f x
  first_same n x found = first_shop number f x s (slot_same n x found)

  -- ---- the material

  -- a carrier that is here is here still, where a process job that is kept names it
  carrier_here : (k : ℕ) (j : ProcessJob) → job_numbered k f.jobs.process.kept ≡ Some j → (name : List ℕ) → names_carrier name j ≡ true → is_carrier_here (carrier_named name f.shop.carriers) ≡ true → is_carrier_here (carrier_named name s.carriers) ≡ true
  carrier_here k j kept name names here = of (carrier_named name f.shop.carriers) refl here where
    of : (o : Option Carrier) → carrier_named name f.shop.carriers ≡ o → is_carrier_here o ≡ true → is_carrier_here (carrier_named name s.carriers) ≡ true
    of None q g = absurd (true≢false (sym g))
    of (Some c) q g =
        let outer = and_parts c.present (is_map_verified c.states.map && is_in_use c.states.access) g in
        let inner = and_parts (is_map_verified c.states.map) (is_in_use c.states.access) outer.1 in
        let its = named_so name c (found_passes (has_name name) f.shop.carriers c q) in
        let at = by_its_number f.shop h.shop name c q in
        let d = stay c.number c at outer.0 inner.0 in
        let named : is_any_of_carrier c.name f.jobs ≡ true = any_found _ (names_carrier c.name) f.jobs.process.kept j kept (ap (λ (n : List ℕ). names_carrier n j) its ∙ names) in
        let less = keep c.number c d.0 at outer.0 d.1 named (use_number c.states.access inner.1) in
        let there : carrier_named name s.carriers ≡ Some d.0 = subst (λ (n : List ℕ). carrier_named n s.carriers ≡ Some d.0) (d.2.name ∙ its) (named_of s.carriers d.0 c.number (found_only (λ (x : Carrier). x.number == c.number) s.carriers d.0 valid.apart d.1) d.1) in
        ap is_carrier_here there
        ∙ both d.0.present (is_map_verified d.0.states.map && is_in_use d.0.states.access) d.2.present
        (both (is_map_verified d.0.states.map) (is_in_use d.0.states.access) d.2.verified (in_use d.0.states.access less))

  material_here : (k : ℕ) (j : ProcessJob) → job_numbered k f.jobs.process.kept ≡ Some j → is_here j f.shop ≡ true → is_here j s ≡ true
  material_here k j kept here = of j.material (λ m among. among) here where
    of : (ms : List Material) → ((m : Material) → list_any (λ (x : Material). bytes_eq x.carrier m.carrier) ms ≡ true → list_any (λ (x : Material). bytes_eq x.carrier m.carrier) j.material ≡ true) → list_all (is_material_here f.shop) ms ≡ true → list_all (is_material_here s) ms ≡ true
    of [] among g = refl
    of (m ∷ ms) among g =
        let parts = and_parts (is_material_here f.shop m) (list_all (is_material_here f.shop) ms) g in
        both (is_material_here s m) (list_all (is_material_here s) ms)
        (carrier_here k j kept m.carrier (among m (ap (λ (b : Bool). b || list_any (λ (x : Material). bytes_eq x.carrier m.carrier) ms) ((bytes_eq-Decides m.carrier m.carrier).1 refl))) parts.0)
        (of ms (λ i q. among i (or_right (bytes_eq m.carrier i.carrier) (list_any (λ (x : Material). bytes_eq x.carrier i.carrier) ms) q)) parts.1)

  -- ---- all of it

  pub shop-works : AtWork number planned counted before (with_shop s f)
  shop-works = record {
    steers = e.steers;
    here = λ k j kept left. material_here k j kept (e.here k j kept left);
    members = e.members;
    stands = λ n x found is. by n x found (e.stands n x found is);
    all = λ n k x j found kept left can. e.all n k x j found kept left (sym (join_same n x found j) ∙ can);
    substrates = record {
      here = λ n kept is left. in_access n kept ((work-jobs number planned counted f (on_base f h) e).named n kept is left) (e.substrates.here n kept is left);
      finished = e.substrates.finished;
      in_slot = e.substrates.in_slot;
      to_chamber = e.substrates.to_chamber;
      not_given = e.substrates.not_given;
    };
  } where
    by : (n : ℕ) (x : Substrate) → substrate_numbered n f.substrates ≡ Some x → (is_done n (picture f) ≡ true) ⊎ (IsInJob number (planned n) x f ⊎ Waits number (planned n) x f) → (is_done n (picture (with_shop s f)) ≡ true) ⊎ (IsInJob number (planned n) x (with_shop s f) ⊎ Waits number (planned n) x (with_shop s f))
    by n x found (inl done) = inl done
    by n x found (inr (inl its)) = inr (inl (its.0, its.1, first_same n x found ∙ its.2, its.3))
    by n x found (inr (inr w)) = inr (inr (record { at = w.at; job = w.job; kept = w.kept; left = w.left; first = first_same n x found ∙ w.first; goes_by = w.goes_by; queued = w.queued; joins = join_same n x found w.job ∙ w.joins }))

    in_access : (n : ℕ) → is_one_of (picture f).substrates n ≡ true → (picture f).jobs.names_carrier ((picture f).carrier_of n) ≡ true → (picture f).access ((picture f).carrier_of n) ≤ 1 → (picture (with_shop s f)).access ((picture f).carrier_of n) ≤ 1
    in_access n kept named less =
        let k = kept_there f h.carried n kept in
        let which : (picture f).carrier_of n ≡ k.one.carrier = ap (of_one 0 (λ (t : Substrate). t.carrier)) k.found in
        let d = stay k.one.carrier k.its k.known k.of.present k.of.verified in
        let names : is_any_of_carrier k.its.name f.jobs ≡ true = sym (its_carrier f false (λ (x : Carrier). is_any_of_carrier x.name f.jobs) n k) ∙ named in
        let earlier : access_number k.its.states.access ≤ 1 = subst (λ (a : ℕ). a ≤ 1) (its_carrier f 0 (λ (x : Carrier). access_number x.states.access) n k) less in
        let now : (picture (with_shop s f)).access ((picture f).carrier_of n) ≡ access_number d.0.states.access = ap (λ (m : ℕ). of_one 0 (λ (x : Carrier). access_number x.states.access) (carrier_numbered m s.carriers)) which ∙ ap (of_one 0 (λ (x : Carrier). access_number x.states.access)) d.1 in
        subst (λ (a : ℕ). a ≤ 1) (sym now) (keep k.one.carrier k.its d.0 k.known k.of.present d.1 names earlier)

-- ---- table 10

-- the carriers that are named stay NOT ACCESSED or IN ACCESS behind it
pub accessing_use : (f : ToolFloor) (n row : ℕ) (c : Carrier) → carrier_numbered n f.shop.carriers ≡ Some c → MayAccess f row c → KeepUse f (with_carrier n (carriers.fires_row 10 row) f.shop)
accessing_use f n row c known may k x d found present there named less =
    let at = found_numbered n (carriers.fires_row 10 row) (λ y. refl) k x f.shop.carriers found in
    let one : d ≡ (if k == n then carriers.fires_row 10 row x else x) = some_same d (if k == n then carriers.fires_row 10 row x else x) (sym there ∙ at) in
    subst (λ (y : Carrier). access_number y.states.access ≤ 1) (sym one) (of (k == n) refl)
  where
    its : x ≡ c → MayAccess f row c → access_number (carriers.fires_row 10 row x).states.access ≤ 1
    its same (inl l) = subst (λ (y : Carrier). access_number (carriers.fires_row 10 row y).states.access ≤ 1) (sym same) l
    its same (inr none) = absurd (true≢false (sym named ∙ ap (λ (y : Carrier). is_any_of_carrier y.name f.jobs) same ∙ none))

    of : (b : Bool) → (k == n) ≡ b → access_number (if b then carriers.fires_row 10 row x else x).states.access ≤ 1
    of false q = less
    of true q = its (some_same x c (sym found ∙ ap (λ (i : ℕ). carrier_numbered i f.shop.carriers) ((Decides-eqb k n).0 q) ∙ known)) may

module _ (number : ℕ) (planned : ℕ → List (List ℕ)) (counted : ℕ → Bool) (f : ToolFloor) (sound : Sound f) {before : Jobs} (e : AtWork number planned counted before f) where
  abbrev Keeps : ToolFloor → Type 0
  Keeps g = WorksOn number planned counted before f g

  accessing-works : (n row : ℕ) → (row == 4) ≡ false → floor_starts (firing 10 n row) f ≡ true → Keeps (floor_fired (firing 10 n row) f)
  accessing-works n row other starts = of (carrier_numbered n f.shop.carriers) refl starts where
    of : (o : Option Carrier) → carrier_numbered n f.shop.carriers ≡ o → accessing_starts row o f ≡ true → Keeps (floor_fired (firing 10 n row) f)
    of None known w = absurd (true≢false (sym w))
    of (Some c) known w = (
      shop-works number planned counted f sound.base e (with_carrier n (carriers.fires_row 10 row) f.shop) (accessing_leaves f.substrates f.shop n row).stay (accessing-keeps f.shop n row sound.base.shop)
          (accessing_use f n row c known (may_access f row c other w)),
      refl,
      refl,
    )

  -- the locations
  location-works : (n row : ℕ) → Keeps (floor_fired (firing 11 n row) f)
  location-works n row = (record { steers = e.steers; here = e.here; members = e.members; stands = λ k x found is. by k x (e.stands k x found is); all = e.all; substrates = e.substrates }, refl, refl) where
    by : (k : ℕ) (x : Substrate) → (is_done k (picture f) ≡ true) ⊎ (IsInJob number (planned k) x f ⊎ Waits number (planned k) x f) → (is_done k (picture f) ≡ true) ⊎ (IsInJob number (planned k) x (floor_fired (firing 11 n row) f) ⊎ Waits number (planned k) x (floor_fired (firing 11 n row) f))
    by k x (inl done) = inl done
    by k x (inr (inl its)) = inr (inl its)
    by k x (inr (inr w)) = inr (inr (record { at = w.at; job = w.job; kept = w.kept; left = w.left; first = w.first; goes_by = w.goes_by; queued = w.queued; joins = w.joins }))

  by_shop : (table object row : ℕ) → shop.floor_starts (firing table object row) f.shop ≡ true → Leaves f.substrates f.shop (shop.floor_fired (firing table object row) f.shop) → SameAccess f.shop.carriers (shop.floor_fired (firing table object row) f.shop).carriers
      → Keeps (with_shop (shop.floor_fired (firing table object row) f.shop) f)
  by_shop table object row s leaves same =
      let g = shop.floor_fired (firing table object row) f.shop in
      (shop-works number planned counted f sound.base e g leaves.stay (shop_keeps (firing table object row) f.shop s sound.base.shop) (same_use f g same), refl, refl)

  association-works : (port row : ℕ) → shop.floor_starts (firing 7 port row) f.shop ≡ true → is_gentle row ≡ true → Keeps (floor_fired (firing 7 port row) f)
  association-works port row s gentle =
      subst (λ (g : ToolFloor). Keeps (with_shop (shop.floor_fired (firing 7 port row) f.shop) g)) (sym (takes_none row port f gentle))
      (by_shop 7 port row s (association_leaves f.substrates f.shop port row sound.base.shop sound.ports gentle s) (association_access f.shop port row sound.ports gentle s))

  slots-work : (carrier row : ℕ) → shop.floor_starts (firing 9 carrier row) f.shop ≡ true → reaches_verified row ≡ false → Keeps (floor_fired (firing 9 carrier row) f)
  slots-work carrier row s reaches =
      subst (λ (t : Bool). Keeps (with_shop (shop.floor_fired (firing 9 carrier row) f.shop) (if t then registers_found (carrier_numbered carrier f.shop.carriers) f else f))) (sym reaches)
      (by_shop 9 carrier row s (map_leaves f.substrates f.shop carrier row reaches) (map_access f.shop carrier row))

  -- The rows of tables 4 to 11, but for 3 and 5 of table 4, 2 and 6 of table 7, those of table 9 that reach VERIFIED, and 4 of table 10.
  pub shop_row-works : (x : Firing) → floor_starts x f ≡ true → is_shop_row x ≡ true → WorksOn number planned counted before f (floor_fired x f)
  shop_row-works x starts kind =
      starts_cases (λ (y : Firing). is_shop_row y ≡ true → Keeps (floor_fired y f)) f x (record {
        transfer = λ s kind. by_shop 4 x.object x.row.row s (transfer_leaves f.substrates f.shop x.object x.row.row) (transfer_access f.shop x.object x.row.row);
        access = λ s kind. by_shop 5 x.object x.row.row s (mode_leaves f.substrates f.shop x.object x.row.row) (mode_access f.shop x.object x.row.row);
        reservation = λ s kind. by_shop 6 x.object x.row.row s (reservation_leaves f.substrates f.shop x.object x.row.row) (reservation_access f.shop x.object x.row.row);
        association = λ s kind. association-works x.object x.row.row s (and_parts (is_plain_row (firing 7 x.object x.row.row)) _ kind).0;
        id = λ s kind. by_shop 8 x.object x.row.row s (id_leaves f.substrates f.shop x.object x.row.row) (id_access f.shop x.object x.row.row);
        map = λ s kind. slots-work x.object x.row.row s (not-true _ (sym (or-false (not (reaches_verified x.row.row))) ∙ kind));
        accessing = λ s kind. accessing-works x.object x.row.row (not-true _ kind) s;
        location = λ s kind. location-works x.object x.row.row;
        transport = λ s kind. absurd (cc);
        processing = λ s kind. absurd (cc);
        process_job = λ s kind. absurd (cc);
        control_job = λ s kind. absurd (cc);
        move = λ s kind. absurd (cc);
      }) starts kind

-- so it executes on behind them
pub shop_row-executes : (number : ℕ) (planned : ℕ → List (List ℕ)) (counted : ℕ → Bool) (f : ToolFloor) → Sound f → Executes number planned counted f → (x : Firing) → floor_starts x f ≡ true → is_shop_row x ≡ true
    → Executes number planned counted (floor_fired x f) × (owed_to planned counted (picture (floor_fired x f)) ≡ owed_to planned counted (picture f))
shop_row-executes number planned counted f sound e x starts kind =
    works_execute number planned counted f (floor_fired x f) e (shop_row-works number planned counted f sound (at_work_of number planned counted f e) x starts kind)
