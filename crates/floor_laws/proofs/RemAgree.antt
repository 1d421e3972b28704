-- A carrier that is taken away, with its substrates, is forgotten in the floor by numbers.
use Rattle.std.proofs.Common.{◌≡◌, ℕ, ◌+◌, ◌==◌, Bool, true, false, not, ◌&&◌, if◌then◌else◌, List, [], filter, find, map, Option, Some, None, option_map, refl, sym, ◌∙◌, ap, subst}
use Rattle.std.specs.List.{AllByRecursion, list_any}
use Rattle.std.proofs.lemmas.Bool.{and_parts, false_from_ne_true, not-true}
use Rattle.std.proofs.lemmas.Bool.Decides.{Decides-eqb}
use Rattle.std.proofs.lemmas.Slice.Eq.{bytes_eq-Decides}
use Rattle.gem_tables.specs.Table.{is_one_of}
use Rattle.load_port.specs.declared.port.Port.{Port}
use Rattle.carrier.specs.declared.carrier.Carrier.{Carrier}
use Rattle.carrier.specs.Tables.{access_number}
use Rattle.carrier.specs.Record.{is_map_verified}
use Rattle.carrier.specs.Carriers.{has_name, carrier_named, carrier_numbered, without}
use Rattle.process_job.specs.Jobs.{recipe_named}
use Rattle.process_job.specs.declared.job.ProcessJob.{ProcessJob}
use Rattle.shop_floor.specs.Floor.{floor_of, number_of as carrier_number}
use Rattle.shop_floor.proofs.Apart.{all_follows, found_one, found_only, found_passes, named_so, has_its_name, IsOnly}
use Rattle.substrate.specs.Places.{has_name as has_sub, substrate_named}
use Rattle.substrate.specs.declared.registered.Registered.{Registered}
use Rattle.floor_model.specs.declared.tracked.Substrate.{Substrate}
use Rattle.floor_model.specs.Floor.{ToolFloor, with_shop, substrate_numbered, number_of}
use Rattle.floor_model.specs.Jobs.{job_of, is_any_of_carrier, is_processing, is_stopping, is_aborting}
use Rattle.floor_model.specs.Substrates.{is_of, removed_of, without_carrier}
use Rattle.floor_moves.specs.Floor.{Loc}
use Rattle.floor_moves.specs.Carriers.{forgotten, HasEnded}
use Rattle.floor_moves.specs.Agree.{Agree}
use Rattle.floor_moves.specs.Valid.{IsDistinct, Valid}
use Rattle.floor_moves.proofs.Promised.{no_member}
use Rattle.floor_moves.proofs.Scans.{filter_tells}
use Rattle.place_laws.specs.Picture.{picture, loc_of, place_in, where_present, of_one, of_job, is_complete, steps_in, numbers_from}
use Rattle.place_laws.specs.Sound.{IsOfKept, Base}
use Rattle.place_laws.proofs.Holding.{found_number, true_of_found, one_found, rising_distinct}
use Rattle.floor_laws.proofs.RegNames.{modules_same}
use Rattle.floor_laws.proofs.RemLists.{kept_found, gone_found, none_found, any_found, own_found, only_numbered, numbers_left, held_distinct, carriers_distinct}
use Rattle.floor_laws.proofs.RemPlaces.{stays, removed_held, removed_given, removed_chambers}
use Rattle.place_laws.proofs.Names.{each_found, one_of_name}

-- ---- the carrier that goes

module _ (f : ToolFloor) (b : Base f) (name : List ℕ) (c : Carrier) (found : carrier_named name f.shop.carriers ≡ Some c) where
  -- a substrate is of another carrier
  abbrev pub is_other : Substrate → Bool
  is_other s = not (is_of c.number s)

  -- a carrier isn't of the name
  abbrev pub is_unlike : Carrier → Bool
  is_unlike d = not (has_name name d)

  -- a carrier of the name is the one
  pub the_one : (d : Carrier) (n : ℕ) → carrier_numbered n f.shop.carriers ≡ Some d → has_name name d ≡ true → d ≡ c
  the_one d n there named =
      let only = found_only (has_name name) f.shop.carriers c b.shop.apart found in
      let its = named_so name c (found_passes (has_name name) f.shop.carriers c found) in
      true_of_found (λ (x : Carrier). x.number) n (IsOnly c) f.shop.carriers d only there (has_its_name c.name d (named_so name d named ∙ sym its))

  -- numbers are those of one
  pub carriers_apart : IsDistinct (map carrier_number f.shop.carriers)
  carriers_apart = carriers_distinct 1 f.shop.next_carrier f.shop.carriers b.shop.rising

  -- those of substrates, too
  pub substrates_apart : IsDistinct (map number_of f.substrates)
  substrates_apart = rising_distinct 0 f.places.given f.substrates b.rising

  -- each carrier is found by its number
  pub own_numbers : AllByRecursion (λ (d : Carrier). carrier_numbered d.number f.shop.carriers ≡ Some d) f.shop.carriers
  own_numbers = own_found carrier_number f.shop.carriers carriers_apart

  -- and so is the one that goes
  pub its_own : carrier_numbered c.number f.shop.carriers ≡ Some c
  its_own = each_found (λ (d : Carrier). carrier_numbered d.number f.shop.carriers ≡ Some d) (has_name name) f.shop.carriers c own_numbers found

  its_name : has_name name c ≡ true
  its_name = found_passes (has_name name) f.shop.carriers c found

  -- another number, another name
  pub unlike_number : (d : Carrier) (n : ℕ) → carrier_numbered n f.shop.carriers ≡ Some d → (n == c.number) ≡ false → is_unlike d ≡ true
  unlike_number d n there other = ap not (false_from_ne_true (has_name name d) (λ is. never (the_one d n there is))) where
    never : d ≡ c → ⊥
    never one =
        let same : n ≡ c.number = sym (found_number carrier_number n f.shop.carriers d there) ∙ ap carrier_number one in
        let t = (Decides-eqb n c.number).1 same in
        absurd (let clash : true ≡ false = sym t ∙ other in cc)

  -- and another name, another number
  pub other_number : (d : Carrier) → carrier_numbered d.number f.shop.carriers ≡ Some d → (d.number == c.number) ≡ has_name name d
  other_number d its = of (has_name name d) refl (d.number == c.number) refl where
    of : (x : Bool) → has_name name d ≡ x → (y : Bool) → (d.number == c.number) ≡ y → y ≡ x
    of true t true u = refl
    of false t false u = refl
    of true t false u =
        let one = the_one d d.number its t in
        let w = (Decides-eqb d.number c.number).1 (ap carrier_number one) in
        absurd (let clash : true ≡ false = sym w ∙ u in cc)
    of false t true u =
        let same : d.number ≡ c.number = (Decides-eqb d.number c.number).0 u in
        let one : Some d ≡ Some c = sym its ∙ ap (λ (n : ℕ). carrier_numbered n f.shop.carriers) same ∙ its_own in
        let equal : d ≡ c = cc in
        absurd (let clash : true ≡ false = sym its_name ∙ ap (has_name name) (sym equal) ∙ t in cc)

  -- ---- carriers behind it

  -- each other is found as it was
  pub others_found : (n : ℕ) → (n == c.number) ≡ false → carrier_numbered n (without name f.shop.carriers) ≡ carrier_numbered n f.shop.carriers
  others_found n other = of (carrier_numbered n f.shop.carriers) refl where
    of : (o : Option Carrier) → carrier_numbered n f.shop.carriers ≡ o → carrier_numbered n (without name f.shop.carriers) ≡ carrier_numbered n f.shop.carriers
    of None e = none_found is_unlike (λ (x : Carrier). x.number == n) f.shop.carriers e ∙ sym e
    of (Some d) e = kept_found is_unlike (λ (x : Carrier). x.number == n) f.shop.carriers d e (unlike_number d n e other) ∙ sym e

  -- it is not there
  its_gone : carrier_numbered c.number (without name f.shop.carriers) ≡ None
  its_gone =
      gone_found is_unlike (λ (x : Carrier). x.number == c.number) f.shop.carriers
      (all_follows (λ (x : Carrier). (x.number == c.number) ≡ true → x ≡ c) (λ (x : Carrier). (x.number == c.number) ≡ true → is_unlike x ≡ false) f.shop.carriers
      (λ x only is. ap (λ (y : Carrier). is_unlike y) (only is) ∙ ap not its_name) (only_numbered carrier_number c.number f.shop.carriers c carriers_apart its_own))

  -- ---- substrates behind it

  -- what is registered of a substrate stays where that is of another carrier
  pub stays_so : (r : Registered) (s : Substrate) → substrate_numbered r.number f.substrates ≡ Some s → s.sub ≡ r.sub → stays c.number f.substrates r ≡ is_other s
  stays_so r s here same = ap not (of (is_of c.number s) refl) where
    of : (x : Bool) → is_of c.number s ≡ x → list_any (λ (t : Substrate). is_of c.number t && has_sub t.sub r) f.substrates ≡ is_of c.number s
    of true is =
        any_found (λ (t : Substrate). is_of c.number t && has_sub t.sub r) (λ (t : Substrate). t.number == r.number) f.substrates s here
        (ap (λ (x : Bool). x && has_sub s.sub r) is ∙ (bytes_eq-Decides r.sub s.sub).1 (sym same)) ∙ sym is
    of false is = false_from_ne_true (list_any (λ (t : Substrate). is_of c.number t && has_sub t.sub r) f.substrates) (λ any. never (found_one (λ (t : Substrate). is_of c.number t && has_sub t.sub r) f.substrates any)) ∙ sym is where
      never : (t : Substrate) × (find (λ (t : Substrate). is_of c.number t && has_sub t.sub r) f.substrates ≡ Some t) → ⊥
      never w =
          let parts = and_parts (is_of c.number w.0) (has_sub (w.0).sub r) (found_passes (λ (t : Substrate). is_of c.number t && has_sub t.sub r) f.substrates w.0 w.1) in
          let its = each_found (λ (t : Substrate). substrate_numbered t.number f.substrates ≡ Some t) (λ (t : Substrate). is_of c.number t && has_sub t.sub r) f.substrates w.0 (own_found number_of f.substrates substrates_apart) w.1 in
          let one = one_of_name f b w.0 s (w.0).number r.number its here (sym ((bytes_eq-Decides r.sub (w.0).sub).0 parts.1) ∙ sym same) in
          absurd (let clash : true ≡ false = sym parts.0 ∙ ap (is_of c.number) one ∙ is in cc)

  -- a substrate of another is found as it was
  pub still_found : (n : ℕ) (s : Substrate) → substrate_numbered n f.substrates ≡ Some s → is_other s ≡ true → substrate_numbered n (filter is_other f.substrates) ≡ Some s
  still_found n s here other = kept_found is_other (λ (t : Substrate). t.number == n) f.substrates s here other

  gone : (n : ℕ) (s : Substrate) → substrate_numbered n f.substrates ≡ Some s → is_other s ≡ false → substrate_numbered n (filter is_other f.substrates) ≡ None
  gone n s here its =
      gone_found is_other (λ (t : Substrate). t.number == n) f.substrates
      (all_follows (λ (t : Substrate). (t.number == n) ≡ true → t ≡ s) (λ (t : Substrate). (t.number == n) ≡ true → is_other t ≡ false) f.substrates
      (λ t only is. ap (λ (x : Substrate). is_other x) (only is) ∙ its) (only_numbered number_of n f.substrates s substrates_apart here))

  -- its carrier, by numbers
  carrier_is : (n : ℕ) (s : Substrate) → substrate_numbered n f.substrates ≡ Some s → (picture f).carrier_of n ≡ s.carrier
  carrier_is n s here = ap (of_one 0 (λ (t : Substrate). t.carrier)) here

  -- ---- the floor by numbers

  module _ (ends : HasEnded c.number (picture f)) (v : Valid (picture f)) (ports : List Port) (next : ℕ) where
    -- the floor behind it
    abbrev pub taken : ToolFloor
    taken = with_shop (floor_of ports (without name f.shop.carriers) next) (without_carrier (Some c.number) f)

    -- none of its substrates is in a job
    jobless : (n : ℕ) (s : Substrate) → substrate_numbered n f.substrates ≡ Some s → s.carrier ≡ c.number → (picture f).jobs.is_member n ≡ true → ⊥
    jobless n s here its is = no_member (picture f) v.carriers v.members n (subst (λ (k : ℕ). HasEnded k (picture f)) (sym (carrier_is n s here ∙ its)) ends) is

    numbers : map number_of (filter is_other f.substrates) ≡ filter (λ n. not ((picture f).carrier_of n == c.number)) (map number_of f.substrates)
    numbers =
        numbers_left number_of is_other (λ n. not ((picture f).carrier_of n == c.number)) f.substrates
        (all_follows (λ (s : Substrate). substrate_numbered s.number f.substrates ≡ Some s) (λ (s : Substrate). not ((picture f).carrier_of s.number == c.number) ≡ is_other s) f.substrates
        (λ s here. ap (λ (k : ℕ). not (k == c.number)) (carrier_is s.number s here)) (own_found number_of f.substrates substrates_apart))

    -- what is said of those that are left
    says_left : {B : Type 0} (else_ : B) (says : Substrate → B) (n : ℕ) → is_one_of (filter (λ n. not ((picture f).carrier_of n == c.number)) (map number_of f.substrates)) n ≡ true
        → of_one else_ says (substrate_numbered n (filter is_other f.substrates)) ≡ of_one else_ says (substrate_numbered n f.substrates)
    says_left else_ says n kept =
        let w = filter_tells (λ n. not ((picture f).carrier_of n == c.number)) (map number_of f.substrates) n kept in
        let s = one_found number_of n f.substrates w.0 in
        let other : is_other s.0 ≡ true = sym (ap (λ (k : ℕ). not (k == c.number)) (carrier_is n s.0 s.1)) ∙ w.1 in
        ap (of_one else_ says) (still_found n s.0 s.1 other ∙ sym s.1)

    -- what jobs say of substrates
    says_job : {B : Type 0} (else_ : B) (says : ProcessJob → B) (n : ℕ) → of_one else_ (of_job else_ says f.jobs) (substrate_numbered n (filter is_other f.substrates)) ≡ of_one else_ (of_job else_ says f.jobs) (substrate_numbered n f.substrates)
    says_job else_ says n = of (substrate_numbered n f.substrates) refl where
      no_job : (s : Substrate) → substrate_numbered n f.substrates ≡ Some s → (s.carrier == c.number) ≡ true → (o : Option ProcessJob) → job_of s f.jobs ≡ o → of_one else_ says o ≡ else_
      no_job s here is None e = refl
      no_job s here is (Some j) e = absurd (jobless n s here ((Decides-eqb s.carrier c.number).0 is) (ap (of_one false (of_job false (λ j. true) f.jobs)) here ∙ ap (of_one false (λ (j : ProcessJob). true)) e))

      by : (s : Substrate) → substrate_numbered n f.substrates ≡ Some s → (x : Bool) → (s.carrier == c.number) ≡ x → of_one else_ (of_job else_ says f.jobs) (substrate_numbered n (filter is_other f.substrates)) ≡ of_one else_ (of_job else_ says f.jobs) (substrate_numbered n f.substrates)
      by s here false is = ap (of_one else_ (of_job else_ says f.jobs)) (still_found n s here (ap not is) ∙ sym here)
      by s here true is = ap (of_one else_ (of_job else_ says f.jobs)) (gone n s here (ap not is)) ∙ sym (no_job s here is (job_of s f.jobs) refl) ∙ sym (ap (of_one else_ (of_job else_ says f.jobs)) here)

      of : (o : Option Substrate) → substrate_numbered n f.substrates ≡ o → of_one else_ (of_job else_ says f.jobs) (substrate_numbered n (filter is_other f.substrates)) ≡ of_one else_ (of_job else_ says f.jobs) (substrate_numbered n f.substrates)
      of None here = ap (of_one else_ (of_job else_ says f.jobs)) (none_found is_other (λ (t : Substrate). t.number == n) f.substrates here ∙ sym here)
      of (Some s) here = by s here (s.carrier == c.number) refl

    -- the places
    place : (n : ℕ) → place_in (removed_of c.number f.substrates f.places) n ≡ (if (picture f).carrier_of n == c.number then None else place_in f.places n)
    place n = ap (λ (rs : List Registered). option_map (λ (r : Registered). loc_of r.at) (find (λ (r : Registered). r.number == n) rs)) (removed_held c.number f.substrates f.places) ∙ of (find (λ (r : Registered). r.number == n) f.places.held) refl where
      nothing : (x : Bool) (o : Option Loc) → o ≡ None → None ≡ (if x then None else o)
      nothing true o e = refl
      nothing false o e = sym e

      by : (r : Registered) → find (λ (x : Registered). x.number == n) f.places.held ≡ Some r → (s : Substrate) → substrate_numbered n f.substrates ≡ Some s → stays c.number f.substrates r ≡ is_other s → (x : Bool) → (s.carrier == c.number) ≡ x
          → option_map (λ (r : Registered). loc_of r.at) (find (λ (x : Registered). x.number == n) (filter (stays c.number f.substrates) f.places.held)) ≡ (if (picture f).carrier_of n == c.number then None else place_in f.places n)
      by r there s here so true is =
          ap (option_map (λ (x : Registered). loc_of x.at))
          (gone_found (stays c.number f.substrates) (λ (x : Registered). x.number == n) f.places.held
          (all_follows (λ (x : Registered). (x.number == n) ≡ true → x ≡ r) (λ (x : Registered). (x.number == n) ≡ true → stays c.number f.substrates x ≡ false) f.places.held
          (λ x only e. ap (stays c.number f.substrates) (only e) ∙ so ∙ ap not is) (only_numbered (λ (x : Registered). x.number) n f.places.held r (held_distinct 0 f.places.given f.places.held b.places.numbered) there)))
          ∙ sym (ap (λ (k : ℕ). if k == c.number then None else place_in f.places n) (carrier_is n s here) ∙ ap (λ (x : Bool). if x then None else place_in f.places n) is)
      by r there s here so false is =
          ap (option_map (λ (x : Registered). loc_of x.at)) (kept_found (stays c.number f.substrates) (λ (x : Registered). x.number == n) f.places.held r there (so ∙ ap not is) ∙ sym there)
          ∙ sym (ap (λ (k : ℕ). if k == c.number then None else place_in f.places n) (carrier_is n s here) ∙ ap (λ (x : Bool). if x then None else place_in f.places n) is)

      of : (o : Option Registered) → find (λ (x : Registered). x.number == n) f.places.held ≡ o → option_map (λ (r : Registered). loc_of r.at) (find (λ (x : Registered). x.number == n) (filter (stays c.number f.substrates) f.places.held)) ≡ (if (picture f).carrier_of n == c.number then None else place_in f.places n)
      of None e =
          ap (option_map (λ (x : Registered). loc_of x.at)) (none_found (stays c.number f.substrates) (λ (x : Registered). x.number == n) f.places.held e)
          ∙ nothing ((picture f).carrier_of n == c.number) (place_in f.places n) (ap (option_map (λ (x : Registered). loc_of x.at)) e)
      of (Some r) e =
          let kept = each_found (IsOfKept f.substrates) (λ (x : Registered). x.number == n) f.places.held r b.held e in
          let number : r.number ≡ n = found_number (λ (x : Registered). x.number) n f.places.held r e in
          by r e kept.0 (ap (λ (k : ℕ). substrate_numbered k f.substrates) (sym number) ∙ kept.1) (stays_so r kept.0 kept.1 kept.2) (is_of c.number kept.0) refl

    -- what open commands name
    found_still : (sub : List ℕ) (r : Registered) → substrate_named sub f.places.held ≡ Some r → (picture f).jobs.is_member r.number ≡ true → substrate_named sub (removed_of c.number f.substrates f.places).held ≡ Some r
    found_still sub r there is =
        let kept = each_found (IsOfKept f.substrates) (has_sub sub) f.places.held r b.held there in
        let other : is_of c.number kept.0 ≡ false = false_from_ne_true (is_of c.number kept.0) (λ its. jobless r.number kept.0 kept.1 ((Decides-eqb (kept.0).carrier c.number).0 its) is) in
        ap (substrate_named sub) (removed_held c.number f.substrates f.places)
        ∙ kept_found (stays c.number f.substrates) (has_sub sub) f.places.held r there (stays_so r kept.0 kept.1 kept.2 ∙ ap not other)

    -- carriers
    carriers_numbers : map carrier_number (without name f.shop.carriers) ≡ filter (λ d. not (d == c.number)) (map carrier_number f.shop.carriers)
    carriers_numbers =
        numbers_left carrier_number is_unlike (λ d. not (d == c.number)) f.shop.carriers
        (all_follows (λ (d : Carrier). carrier_numbered d.number f.shop.carriers ≡ Some d) (λ (d : Carrier). not (d.number == c.number) ≡ is_unlike d) f.shop.carriers (λ d own. ap not (other_number d own)) own_numbers)

    present : (k : ℕ) → of_one None where_present (carrier_numbered k (without name f.shop.carriers)) ≡ (if k == c.number then None else of_one None where_present (carrier_numbered k f.shop.carriers))
    present k = of (k == c.number) refl where
      of : (x : Bool) → (k == c.number) ≡ x → of_one None where_present (carrier_numbered k (without name f.shop.carriers)) ≡ (if x then None else of_one None where_present (carrier_numbered k f.shop.carriers))
      of true e = subst (λ (m : ℕ). of_one None where_present (carrier_numbered m (without name f.shop.carriers)) ≡ None) (sym ((Decides-eqb k c.number).0 e)) (ap (of_one None where_present) its_gone)
      of false e = ap (of_one None where_present) (others_found k e)

    -- one that is known still is another
    known_other : (k : ℕ) → is_one_of (filter (λ d. not (d == c.number)) (map carrier_number f.shop.carriers)) k ≡ true → (k == c.number) ≡ false
    known_other k is = not-true _ (filter_tells (λ d. not (d == c.number)) (map carrier_number f.shop.carriers) k is).1

    -- and so is one that is present
    present_other : (k p : ℕ) → (if k == c.number then None else of_one None where_present (carrier_numbered k f.shop.carriers)) ≡ Some p → (k == c.number) ≡ false
    present_other k p e = of (k == c.number) refl e where
      of : (x : Bool) → (k == c.number) ≡ x → (if x then None else of_one None where_present (carrier_numbered k f.shop.carriers)) ≡ Some p → (k == c.number) ≡ false
      of true is g = absurd (cc)
      of false is g = is

    pub forgetting_agrees : Agree (forgotten c.number (picture f)) (picture taken)
    forgetting_agrees = record {
      substrates = numbers;
      next_substrate = ap (λ (n : ℕ). n + 1) (removed_given c.number f.substrates f.places);
      carrier_of = λ k e. says_left 0 (λ (s : Substrate). s.carrier) k e;
      port_of = λ k e. says_left 0 _ k e;
      slot_of = λ k e. says_left 0 _ k e;
      place_of = place;
      processing = λ k e. says_left 0 _ k e;
      is_aligned = λ k e. says_left false _ k e;
      steps_of = λ k e _. says_left 0 _ k e;
      carriers = carriers_numbers;
      present_at = present;
      is_verified = λ k e. ap (of_one false (λ (x : Carrier). is_map_verified x.states.map)) (others_found k (known_other k e));
      access = λ k e. ap (of_one 0 (λ (x : Carrier). access_number x.states.access)) (others_found k (known_other k e));
      jobs = record {
        is_member = λ k. says_job false (λ j. true) k;
        may_start = λ k. says_job false (λ j. is_processing j.states.state) k;
        is_stopping = λ k. says_job false (λ j. is_stopping j.states.state) k;
        is_aborting = λ k. says_job false (λ j. is_aborting j.states.state) k;
        is_complete = λ k. says_job false (λ j. is_complete j.states.state) k;
        route_of = λ k. says_job [] (λ j. steps_in (recipe_named j.recipe f.jobs.process.recipes)) k;
        names_carrier = λ k p here. ap (of_one false (λ (x : Carrier). is_any_of_carrier x.name f.jobs)) (others_found k (present_other k p here));
        is_marked = λ k p here. ap (of_one false (λ (x : Carrier). x.stopped)) (others_found k (present_other k p here));
      };
      chambers = ap (numbers_from 1) (removed_chambers c.number f.substrates f.places);
      equipment = modules_same f b.rising v.members (removed_of c.number f.substrates f.places) found_still;
      next_command = refl;
    }
