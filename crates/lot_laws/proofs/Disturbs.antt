-- What disturbs a control job for good stays as later changes of the same input come, and no such input is calm.
use Rattle.std.proofs.Common.{◌≡◌, ◌≤◌, ℕ, zero, suc, ◌+◌, ◌==◌, Bool, true, false, true≢false, cond, if◌then◌else◌, not, ◌&&◌, ◌||◌, List, [], ◌∷◌, ◌++◌, Option, Some, None, option_map, refl, sym, ◌∙◌, ap, subst, inl, inr, arith}
use Rattle.std.proofs.lemmas.Bool.Decides.{Decides-eqb}
use Rattle.gem_tables.specs.Table.{is_one_of, firing, after}
use Rattle.gem_tables.specs.declared.firing.Firing.{Firing}
use Rattle.floor_model.proofs.EachTable.{starts_cases}
use Rattle.gem_ids.specs.declared.numbers.LocId.{LocId}
use Rattle.gem_ids.specs.declared.numbers.LocId.TheVariants.{Slot}
use Rattle.gem_ids.specs.declared.numbers.PortNo.{PortNo}
use Rattle.gem_ids.specs.Names.{name_in_slot}
use Rattle.carrier.specs.declared.carrier.Carrier.{Carrier}
use Rattle.carrier.specs.Carriers.{carrier_numbered}
use Rattle.shop_floor.specs.Floor.{Floor}
use Rattle.shop_floor.specs.Owning.{owner_number}
use Rattle.shop_floor.specs.Machines as shop
use Rattle.substrate.specs.Tables.{processing_number}
use Rattle.substrate.specs.Places.{PlaceMap, registered}
use Rattle.process_job.specs.Tables.{job_number, job_table}
use Rattle.process_job.specs.Jobs.{job_numbered, change_numbered, without_numbered, fires_row, created}
use Rattle.process_job.specs.declared.job.JobSpec.{JobSpec}
use Rattle.process_job.specs.declared.record.JobState.{JobState}
use Rattle.process_job.specs.declared.record.JobState.TheVariants as state
use Rattle.process_job.specs.declared.job.ProcessJob.{ProcessJob}
use Rattle.control_job.specs.Tables.{state_number, states_number, control_table}
use Rattle.control_job.specs.Record as states
use Rattle.control_job.specs.Record.{is_completed}
use Rattle.control_job.specs.Jobs as control
use Rattle.control_job.specs.Jobs.{JobStore, job_numbered as control_numbered, fires_at, leaves, headed}
use Rattle.control_job.specs.declared.job.ControlJob.{ControlJob}
use Rattle.control_job.specs.declared.record.ControlState.{ControlState}
use Rattle.control_job.specs.declared.record.ControlState.TheVariants.{Queued, Selected, WaitingForStart, Executing, Paused, Completed}
use Rattle.control_job.specs.declared.record.Ending.{Ending}
use Rattle.control_job.specs.declared.record.Ending.TheVariants.{No, ByStop, ByAbort}
use Rattle.control_job.specs.declared.record.ControlJobRecord.{ControlJobRecord}
use Rattle.control_job.proofs.Keeping.{leaves_number, fires_number}
use Rattle.tool_jobs.specs.Jobs.{Jobs}
use Rattle.tool_jobs.specs.Wants.{is_ending, ends_so}
use Rattle.tool_jobs.specs.Rows.{left_by, ended}
use Rattle.tool_jobs.specs.Together.{AreTogether}
use Rattle.tool_jobs.specs.Creating.{with_process, with_control, control_fault}
use Rattle.tool_jobs.proofs.Rows.{after_meets}
use Rattle.floor_model.specs.declared.tracked.Substrate.{Substrate}
use Rattle.floor_model.specs.Floor.{ToolFloor, with_shop, with_jobs, fetched, substrate_numbered}
use Rattle.floor_model.specs.Jobs.{freed, without_members}
use Rattle.floor_model.specs.Substrates.{reaches_verified, without_carrier, can_register, first_substrate, registers_at, registers_slot, registers_slots, registers_at_port, registers_found}
use Rattle.floor_model.specs.Machines.{floor_starts, floor_fired, registered_by}
use Rattle.place_laws.specs.Picture.{picture, of_one}
use Rattle.place_laws.specs.Sound.{Sound}
use Rattle.floor_laws.proofs.JobSight.{none_some, some_same}
use Rattle.floor_laws.proofs.JobLists.{job_number_is, fired_there, fired_else, fired_was, without_else, found_more}
use Rattle.floor_laws.proofs.JobFires.{fired_jobs}
use Rattle.floor_laws.proofs.JobEnds.{freed_alone}
use Rattle.owed_laws.specs.Owed.{owed_to}
use Rattle.queue_laws.specs.Started.{is_left_in, AreStarted}
use Rattle.queue_laws.specs.Steers.{is_executing, goes_on}
use Rattle.queue_laws.proofs.Lists.{numbered_changed, gone_back}
use Rattle.queue_laws.proofs.Rows.{executed}
use Rattle.queue_laws.proofs.Owners.{states_left}
use Rattle.queue_laws.proofs.Starting as started
use Rattle.lot_laws.specs.Lot.{Executes, IsCalmBetween, breaks_off, Disturbed, ends, loses, breaks, spoils, WorksOrIsDisturbed}
use Rattle.lot_laws.proofs.AtWork.{going_whole, at_work_of, executes_of}
use Rattle.lot_laws.proofs.Going.{processing_same}

-- ---- states

-- one that is STOPPING or ABORTING stays so, behind any row
stays_broken : (row : ℕ) (s : JobState) → breaks_off s ≡ true → breaks_off (after job_number job_table row s) ≡ true
stays_broken row state.Stopping e = after_meets job_number breaks_off (λ n. false) row state.Stopping job_table refl refl refl
stays_broken row state.Aborting e = after_meets job_number breaks_off (λ n. false) row state.Aborting job_table refl refl refl
stays_broken row _ e = absurd (true≢false (sym e))

-- what is so of the two that are EXECUTING and ending is so of one of them
by_ending : (P : ControlJobRecord → Type 0) → P (record { state = Executing; ending = ByStop }) → P (record { state = Executing; ending = ByAbort }) → (s : ControlJobRecord)
    → is_ending s.ending ≡ true → state_number s.state ≡ 3 → P s
by_ending P stops aborts s e three = of s.state s.ending e three where
  of : (a : ControlState) (b : Ending) → is_ending b ≡ true → state_number a ≡ 3 → P (record { state = a; ending = b })
  of a No q f = absurd (true≢false (sym q))
  of Executing ByStop q f = stops
  of Executing ByAbort q f = aborts
  of Queued ByStop q f = absurd (omega (arith, f))
  of Queued ByAbort q f = absurd (omega (arith, f))
  of Selected ByStop q f = absurd (omega (arith, f))
  of Selected ByAbort q f = absurd (omega (arith, f))
  of WaitingForStart ByStop q f = absurd (omega (arith, f))
  of WaitingForStart ByAbort q f = absurd (omega (arith, f))
  of Paused ByStop q f = absurd (omega (arith, f))
  of Paused ByAbort q f = absurd (omega (arith, f))
  of Completed ByStop q f = absurd (omega (arith, f))
  of Completed ByAbort q f = absurd (omega (arith, f))

-- one that is ending stays so, but for row 8
stays_ending : (row : ℕ) (s : ControlJobRecord) → (row == 8) ≡ false → is_ending s.ending ≡ true → state_number s.state ≡ 3 → is_ending (states.control_fired row s).ending ≡ true
stays_ending row s eight e three =
    by_ending (λ (x : ControlJobRecord). is_ending (states.control_fired row x).ending ≡ true)
    (after_meets states_number (λ (x : ControlJobRecord). is_ending x.ending) (λ n. n == 8) row (record { state = Executing; ending = ByStop }) control_table eight refl refl)
    (after_meets states_number (λ (x : ControlJobRecord). is_ending x.ending) (λ n. n == 8) row (record { state = Executing; ending = ByAbort }) control_table eight refl refl)
    s e three

-- and it isn't COMPLETED
ending_open : (s : ControlJobRecord) → is_ending s.ending ≡ true → state_number s.state ≡ 3 → is_completed s.state ≡ false
ending_open s e three = by_ending (λ (x : ControlJobRecord). is_completed x.state ≡ false) refl refl s e three

-- a control job that is ending doesn't execute
ending_not_executing : (o : Option ControlJob) → ends_so is_ending o ≡ true → is_executing o ≡ true → ⊥
ending_not_executing None e x = true≢false (sym e)
ending_not_executing (Some c) e x = true≢false (sym e ∙ (executed c.states x).not_ending)

-- ---- substrates that are registered

-- what one more substrate keeps, a registration keeps
module _ (P : ToolFloor → Type 0) (more : (g : ToolFloor) (p : PlaceMap) (x : Substrate) → P g → P (record g { places = p; substrates = g.substrates ++ x ∷ [] })) where
  at_place : (g : ToolFloor) (sub : List ℕ) (carrier : ℕ) (loc : LocId) → P g → P (registers_at sub carrier loc g)
  at_place g sub carrier loc h = of (can_register sub loc g.places) where
    of : (b : Bool) → P (if b then record g { places = registered sub loc g.places; substrates = g.substrates ++ first_substrate (g.places.given + 1) sub carrier loc ∷ [] } else g)
    of true = more g (registered sub loc g.places) (first_substrate (g.places.given + 1) sub carrier loc) h
    of false = h

  at_slot : (g : ToolFloor) (c : Carrier) (port : PortNo) (slot code : ℕ) → P g → P (registers_slot c port slot code g)
  at_slot g c port slot code h = of (code == 3) where
    of : (b : Bool) → P (if b then registers_at (name_in_slot c.name slot) c.number (Slot port (record { 0 = slot })) g else g)
    of true = at_place g (name_in_slot c.name slot) c.number (Slot port (record { 0 = slot })) h
    of false = h

  at_slots : (g : ToolFloor) (c : Carrier) (port : PortNo) (slot count : ℕ) (slots : List ℕ) → P g → P (registers_slots c port slot count slots g)
  at_slots g c port slot zero slots h = h
  at_slots g c port slot (suc count) [] h = h
  at_slots g c port slot (suc count) (code ∷ slots) h = at_slots (registers_slot c port slot code g) c port (slot + 1) count slots (at_slot g c port slot code h)

  registered_keeps : (row carrier : ℕ) (g : ToolFloor) → P g → P (registered_by row carrier g)
  registered_keeps row carrier g h = of (reaches_verified row) where
    at_port : (o : Option PortNo) (c : Carrier) → P (registers_at_port o c g)
    at_port None c = h
    at_port (Some port) c = at_slots g c port 1 25 c.map h

    by : (o : Option Carrier) → P (registers_found o g)
    by None = h
    by (Some c) = at_port c.port c

    of : (b : Bool) → P (if b then registers_found (carrier_numbered carrier g.shop.carriers) g else g)
    of true = by (carrier_numbered carrier g.shop.carriers)
    of false = h

-- each that is kept is found then
one_more : (n : ℕ) (x : Substrate) (ss : List Substrate) (s : Substrate) → substrate_numbered n ss ≡ Some s → substrate_numbered n (ss ++ x ∷ []) ≡ Some s
one_more n x [] s e = none_some s e
one_more n x (y ∷ ys) s e = of (y.number == n) e (one_more n x ys s) where
  of : (b : Bool) → cond b (Some y) (substrate_numbered n ys) ≡ Some s → (substrate_numbered n ys ≡ Some s → substrate_numbered n (ys ++ x ∷ []) ≡ Some s) → cond b (Some y) (substrate_numbered n (ys ++ x ∷ [])) ≡ Some s
  of true q later = q
  of false q later = later q

-- what is disturbed isn't calm
module _ (number : ℕ) (counted : ℕ → Bool) (before : ToolFloor) where
  pub disturbed_not_calm : (f : ToolFloor) → Disturbed number counted before f → IsCalmBetween number counted before f → ⊥
  disturbed_not_calm f (ends is) calm = ending_not_executing (control_numbered number f.jobs.control.jobs) is calm.executes
  disturbed_not_calm f (loses n was less none) calm = let k = calm.going n was.0 was.1 was.2 in none_some k.0 (sym none ∙ k.1)
  disturbed_not_calm f (breaks n k was found broken) calm =
      let i = calm.going n was.0 was.1 was.2 in
      let same : i.0 ≡ k = some_same i.0 k (sym i.1 ∙ found) in
      true≢false (sym broken ∙ ap (λ (x : ProcessJob). breaks_off x.states.state) (sym same) ∙ going_whole i.0.states.state i.2)
  disturbed_not_calm f (spoils n is one other) calm =
      true≢false (sym ((Decides-eqb ((picture f).processing n) ((picture before).processing n)).1 (calm.works n is one)) ∙ other)

-- ---- the base, and the end

module _ (number : ℕ) (planned : ℕ → List (List ℕ)) (counted : ℕ → Bool) (before : ToolFloor) where
  pub at_base : Executes number planned counted before → WorksOrIsDisturbed number planned counted before before
  at_base e = inl (at_work_of number planned counted before e, refl)

  pub executes_at_end : (f : ToolFloor) → WorksOrIsDisturbed number planned counted before f → IsCalmBetween number counted before f
      → Executes number planned counted f × (owed_to planned counted (picture f) ≡ owed_to planned counted (picture before))
  executes_at_end f (inl w) calm = (executes_of number planned counted f w.0 calm.executes going, w.1) where
    going : (n : ℕ) (j : ProcessJob) → job_numbered n f.jobs.process.kept ≡ Some j → is_left_in number j.id f.jobs ≡ true → goes_on j.states.state ≡ true
    going n j kept left =
        let was = w.0.steers.were n j kept left in
        let k = calm.going n was.0 was.1 was.2 in
        ap (λ (x : ProcessJob). goes_on x.states.state) (sym (some_same k.0 j (sym k.1 ∙ kept))) ∙ k.2
  executes_at_end f (inr d) calm = absurd (disturbed_not_calm number counted before f d calm)

module _ (number : ℕ) (counted : ℕ → Bool) (before : ToolFloor) where
  -- ---- changes that leave the jobs, and what processing says of substrates

  module _ (f : ToolFloor) where
    -- it says the same of each that is ABORTED, STOPPED, LOST or SKIPPED
    abbrev pub SaysSame : ToolFloor → Type 0
    SaysSame g = (n : ℕ) → is_one_of (3 ∷ 4 ∷ 6 ∷ 7 ∷ []) ((picture f).processing n) ≡ true → (picture g).processing n ≡ (picture f).processing n

    pub disturbed-stays : (g : ToolFloor) → g.jobs ≡ f.jobs → SaysSame g → Disturbed number counted before f → Disturbed number counted before g
    disturbed-stays g same says (ends is) = ends (ap (λ (w : Jobs). ends_so is_ending (control_numbered number w.control.jobs)) same ∙ is)
    disturbed-stays g same says (loses n was less none) = loses n was (subst (λ (w : Jobs). n ≤ w.process.given) (sym same) less) (ap (λ (w : Jobs). job_numbered n w.process.kept) same ∙ none)
    disturbed-stays g same says (breaks n k was found broken) = breaks n k was (ap (λ (w : Jobs). job_numbered n w.process.kept) same ∙ found) broken
    disturbed-stays g same says (spoils n is one other) =
        spoils n is (ap (is_one_of (3 ∷ 4 ∷ 6 ∷ 7 ∷ [])) (says n one) ∙ one) (ap (λ (p : ℕ). p == (picture before).processing n) (says n one) ∙ other)

    -- so it does where one more substrate is kept
    disturbed-more : (p : PlaceMap) (x : Substrate) → Disturbed number counted before f → Disturbed number counted before (record f { places = p; substrates = f.substrates ++ x ∷ [] })
    disturbed-more p x d = disturbed-stays (record f { places = p; substrates = f.substrates ++ x ∷ [] }) refl (λ n one. says n one (substrate_numbered n f.substrates) refl) d where
      says : (n : ℕ) → is_one_of (3 ∷ 4 ∷ 6 ∷ 7 ∷ []) ((picture f).processing n) ≡ true → (o : Option Substrate) → substrate_numbered n f.substrates ≡ o
          → (picture (record f { places = p; substrates = f.substrates ++ x ∷ [] })).processing n ≡ (picture f).processing n
      says n one None q = absurd (true≢false (sym one ∙ ap (λ (o : Option Substrate). is_one_of (3 ∷ 4 ∷ 6 ∷ 7 ∷ []) (of_one 0 (λ (s : Substrate). processing_number s.states.processing) o)) q))
      says n one (Some s) q = ap (of_one 0 (λ (y : Substrate). processing_number y.states.processing)) (one_more n x f.substrates s q ∙ sym q)

    pub disturbed-shop : (s : Floor) → Disturbed number counted before f → Disturbed number counted before (with_shop s f)
    disturbed-shop s d = disturbed-stays (with_shop s f) refl (λ n one. refl) d

    pub disturbed-fetched : (m : ℕ) → Disturbed number counted before f → Disturbed number counted before (fetched m f)
    disturbed-fetched m d = disturbed-stays (fetched m f) refl (λ n one. refl) d

  -- ---- rows that leave jobs

  -- a row of table 4, 5, 6, 8, 9, 10 or 11, one of table 7 but for 6, and row 10 of table 16
  abbrev pub leaves_jobs : Firing → Bool
  leaves_jobs x =
      is_one_of (4 ∷ 5 ∷ 6 ∷ 8 ∷ 9 ∷ 10 ∷ 11 ∷ []) x.row.table || (((x.row.table == 7) && not (x.row.row == 6)) || ((x.row.table == 16) && (x.row.row == 10)))

  module _ (f : ToolFloor) (d : Disturbed number counted before f) where
    abbrev Is : ToolFloor → Type 0
    Is g = Disturbed number counted before g

    association : (port row : ℕ) → (not (row == 6) || false) ≡ true → Is (floor_fired (firing 7 port row) f)
    association port row other = of (row == 6) other where
      of : (b : Bool) → (not b || false) ≡ true → Is (with_shop (shop.floor_fired (firing 7 port row) f.shop) (if b then without_carrier (owner_number port f.shop) f else f))
      of true q = absurd (true≢false (sym q))
      of false q = disturbed-shop f (shop.floor_fired (firing 7 port row) f.shop) d

    slots : (carrier row : ℕ) → Is (floor_fired (firing 9 carrier row) f)
    slots carrier row =
        disturbed-shop (registered_by row carrier f) (shop.floor_fired (firing 9 carrier row) f.shop)
        (registered_keeps Is (λ g p x h. disturbed-more g p x h) row carrier f d)

    module_up : (m row : ℕ) → (row == 10) ≡ true → Is (floor_fired (firing 16 m row) f)
    module_up m row ten = subst (λ (r : ℕ). Is (floor_fired (firing 16 m r) f)) (sym ((Decides-eqb row 10).0 ten)) (disturbed-stays f (floor_fired (firing 16 m 10) f) refl (λ n one. refl) d)

    pub disturbed-row : (x : Firing) → floor_starts x f ≡ true → leaves_jobs x ≡ true → Is (floor_fired x f)
    disturbed-row x starts kind =
        starts_cases (λ (y : Firing). leaves_jobs y ≡ true → Is (floor_fired y f)) f x (record {
          transfer = λ s k. disturbed-shop f (shop.floor_fired (firing 4 x.object x.row.row) f.shop) d;
          access = λ s k. disturbed-shop f (shop.floor_fired (firing 5 x.object x.row.row) f.shop) d;
          reservation = λ s k. disturbed-shop f (shop.floor_fired (firing 6 x.object x.row.row) f.shop) d;
          association = λ s k. association x.object x.row.row k;
          id = λ s k. disturbed-shop f (shop.floor_fired (firing 8 x.object x.row.row) f.shop) d;
          map = λ s k. slots x.object x.row.row;
          accessing = λ s k. disturbed-shop f (shop.floor_fired (firing 10 x.object x.row.row) f.shop) d;
          location = λ s k. disturbed-stays f (floor_fired (firing 11 x.object x.row.row) f) refl (λ n one. refl) d;
          transport = λ s k. absurd (cc);
          processing = λ s k. absurd (cc);
          process_job = λ s k. absurd (cc);
          control_job = λ s k. absurd (cc);
          move = λ s k. module_up x.object x.row.row k;
        }) starts kind

  -- ---- changes of jobs

  module _ (f : ToolFloor) where
    -- the state of a process job
    pub disturbed-fired : (row n : ℕ) → Disturbed number counted before f → Disturbed number counted before (with_jobs (fired_jobs n row f.jobs) f)
    disturbed-fired row n (ends is) = ends is
    disturbed-fired row n (loses m was less none) = loses m was less (of (job_numbered m (fired_jobs n row f.jobs).process.kept) refl) where
      of : (o : Option ProcessJob) → job_numbered m (fired_jobs n row f.jobs).process.kept ≡ o → o ≡ None
      of None q = refl
      of (Some i) q = let b = fired_was n row m f.jobs.process.kept i q in none_some b.job (sym none ∙ b.found)
    disturbed-fired row n (breaks m k was found broken) = of (m == n) refl where
      of : (b : Bool) → (m == n) ≡ b → Disturbed number counted before (with_jobs (fired_jobs n row f.jobs) f)
      of true q =
          let same : m ≡ n = (Decides-eqb m n).0 q in
          breaks m (fires_row row k) was
          (subst (λ (x : ℕ). job_numbered x (change_numbered n (fires_row row) f.jobs.process.kept) ≡ Some (fires_row row k)) (sym same)
          (fired_there n row f.jobs.process.kept ∙ ap (option_map (fires_row row)) (subst (λ (x : ℕ). job_numbered x f.jobs.process.kept ≡ Some k) same found)))
          (stays_broken row k.states.state broken)
      of false q = breaks m k was (fired_else n row m (λ same. true≢false (sym ((Decides-eqb m n).1 same) ∙ q)) f.jobs.process.kept ∙ found) broken
    disturbed-fired row n (spoils m is one other) = spoils m is one other

    -- one that isn't STOPPING or ABORTING ends
    module _ (h : Sound f) (n : ℕ) (j : ProcessJob) (known : job_numbered n f.jobs.process.kept ≡ Some j) (whole : breaks_off j.states.state ≡ false) where
      control_leaves : (o : Option ControlJob) → ends_so is_ending (option_map (leaves j.id) o) ≡ ends_so is_ending o
      control_leaves None = refl
      control_leaves (Some c) = ap (λ (x : ControlJobRecord). is_ending x.ending) (states_left j.id c)

      control_same : ends_so is_ending (control_numbered number (ended n f.jobs).control.jobs) ≡ ends_so is_ending (control_numbered number f.jobs.control.jobs)
      control_same =
          ap (λ (o : Option ProcessJob). ends_so is_ending (control_numbered number (left_by o f.jobs.control).jobs)) known
          ∙ ap (ends_so is_ending) (numbered_changed (leaves j.id) number f.jobs.control.jobs (leaves_number j.id))
          ∙ control_leaves (control_numbered number f.jobs.control.jobs)

      pub disturbed-ended : Disturbed number counted before f → Disturbed number counted before (with_jobs (ended n f.jobs) (without_members j.number f))
      disturbed-ended (ends is) = ends (control_same ∙ is)
      disturbed-ended (loses m was less none) = loses m was less (of (job_numbered m (without_numbered n f.jobs.process.kept)) refl) where
        of : (o : Option ProcessJob) → job_numbered m (without_numbered n f.jobs.process.kept) ≡ o → o ≡ None
        of None q = refl
        of (Some i) q = none_some i (sym none ∙ (gone_back n m 0 f.jobs.process.given f.jobs.process.kept i h.base.jobs.numbered q).0)
      disturbed-ended (breaks m k was found broken) = breaks m k was (without_else n m apart f.jobs.process.kept ∙ found) broken where
        apart : m ≡ n → ⊥
        apart same =
            let one : k ≡ j = some_same k j (sym found ∙ ap (λ (x : ℕ). job_numbered x f.jobs.process.kept) same ∙ known) in
            true≢false (sym broken ∙ ap (λ (x : ProcessJob). breaks_off x.states.state) one ∙ whole)
      disturbed-ended (spoils m is one other) =
          let same = processing_same f (freed j.number) (freed_alone j.number) (ended n f.jobs) m in
          spoils m is (ap (is_one_of (3 ∷ 4 ∷ 6 ∷ 7 ∷ [])) same ∙ one) (ap (λ (p : ℕ). p == (picture before).processing m) same ∙ other)

    -- one is created
    pub disturbed-created : (spec : JobSpec) → Sound f → Disturbed number counted before f → Disturbed number counted before (with_jobs (with_process spec f.jobs) f)
    disturbed-created spec h (ends is) = ends is
    disturbed-created spec h (loses m was less none) =
        loses m was (omega (arith, less)) (found_more m (created (f.jobs.process.given + 1) spec) f.jobs.process.kept (λ same. absurd (omega (arith, less, same))) ∙ none)
    disturbed-created spec h (breaks m k was found broken) =
        let less = (job_number_is m 0 f.jobs.process.given f.jobs.process.kept k h.base.jobs.numbered found).2 in
        breaks m k was (found_more m (created (f.jobs.process.given + 1) spec) f.jobs.process.kept (λ same. absurd (omega (arith, less, same))) ∙ found) broken
    disturbed-created spec h (spoils m is one other) = spoils m is one other

    -- control jobs change
    pub disturbed-control : (c : JobStore) → (ends_so is_ending (control_numbered number f.jobs.control.jobs) ≡ true → ends_so is_ending (control_numbered number c.jobs) ≡ true)
        → Disturbed number counted before f → Disturbed number counted before (with_jobs (record f.jobs { control = c }) f)
    disturbed-control c on (ends is) = ends (on is)
    disturbed-control c on (loses m was less none) = loses m was less none
    disturbed-control c on (breaks m k was found broken) = breaks m k was found broken
    disturbed-control c on (spoils m is one other) = spoils m is one other

    module _ (t : AreTogether f.jobs) (s : AreStarted f.jobs) where
      -- by a row but for 8
      pub disturbed-behind : (row m : ℕ) → (row == 8) ≡ false → Disturbed number counted before f → Disturbed number counted before (with_jobs (record f.jobs { control = control.fired_at m row f.jobs.control }) f)
      disturbed-behind row m eight = disturbed-control (control.fired_at m row f.jobs.control) on where
        at : (o : Option ControlJob) → control_numbered number f.jobs.control.jobs ≡ o → ends_so is_ending o ≡ true → ends_so is_ending (option_map (fires_at m row) o) ≡ true
        at None q is = is
        at (Some c) q is = of (c.number == m) where
          of : (b : Bool) → is_ending (cond b (control.fires_row row c) c).states.ending ≡ true
          of true = stays_ending row c.states eight is (s.ending number c q is)
          of false = is

        on : ends_so is_ending (control_numbered number f.jobs.control.jobs) ≡ true → ends_so is_ending (control_numbered number (control.fired_at m row f.jobs.control).jobs) ≡ true
        on is = ap (ends_so is_ending) (numbered_changed (fires_at m row) number f.jobs.control.jobs (fires_number m row)) ∙ at (control_numbered number f.jobs.control.jobs) refl is

      -- one is created
      pub disturbed-added : (name : List ℕ) (named : List (List ℕ)) (auto : Bool) → control_fault name named f.jobs ≡ None → Disturbed number counted before f
          → Disturbed number counted before (with_jobs (with_control name named auto f.jobs) f)
      disturbed-added name named auto free = disturbed-control (with_control name named auto f.jobs).control on where
        at : (o : Option ControlJob) → control_numbered number f.jobs.control.jobs ≡ o → ends_so is_ending o ≡ true → ends_so is_ending (control_numbered number (with_control name named auto f.jobs).control.jobs) ≡ true
        at None q is = absurd (true≢false (sym is))
        at (Some c) q is =
            ap (ends_so is_ending) (started.open_stays f.jobs t s name named auto number c free q (ap not (ending_open c.states is (s.ending number c q is)))) ∙ is

        on : ends_so is_ending (control_numbered number f.jobs.control.jobs) ≡ true → ends_so is_ending (control_numbered number (with_control name named auto f.jobs).control.jobs) ≡ true
        on is = at (control_numbered number f.jobs.control.jobs) refl is

    -- the order of the queue changes
    pub disturbed-headed : (name : List ℕ) → Disturbed number counted before f → Disturbed number counted before (with_jobs (record f.jobs { control = headed name f.jobs.control }) f)
    disturbed-headed name = disturbed-control (headed name f.jobs.control) (λ is. is)
