-- What an input does to the floor by a row that doesn't disturb the control job, or by a change of the jobs, leaves it calm.
use Rattle.std.proofs.Common.{◌≡◌, ℕ, zero, suc, ◌+◌, ◌==◌, Bool, true, false, if◌then◌else◌, not, ◌&&◌, List, [], ◌∷◌, ◌++◌, map, filter, Option, Some, None, option_map, refl, sym, ◌∙◌, ap, subst, arith}
use Rattle.std.proofs.lemmas.Bool.{true≢false}
use Rattle.std.proofs.lemmas.Bool.Decides.{Decides-eqb}
use Rattle.gem_ids.specs.declared.numbers.LocId.{LocId}
use Rattle.gem_ids.specs.declared.numbers.LocId.TheVariants.{Slot}
use Rattle.gem_ids.specs.declared.numbers.PortNo.{PortNo}
use Rattle.gem_ids.specs.Names.{name_in_slot}
use Rattle.gem_tables.specs.Table.{firing, is_one_of, after}
use Rattle.gem_tables.specs.declared.firing.Firing.{Firing}
use Rattle.floor_model.proofs.EachTable.{starts_cases}
use Rattle.gem_tables.proofs.Rows.{one_of_cases}
use Rattle.tool_tasks.specs.declared.task.Task.{Task}
use Rattle.tool_tasks.specs.declared.task.Task.TheVariants as task
use Rattle.robot_moves.specs.Modules.{module_at}
use Rattle.carrier.specs.declared.carrier.Carrier.{Carrier}
use Rattle.carrier.specs.Carriers.{carrier_numbered}
use Rattle.shop_floor.specs.Floor.{Floor}
use Rattle.shop_floor.specs.Owning.{owner_number}
use Rattle.shop_floor.specs.Machines as shop
use Rattle.substrate.specs.Places.{PlaceMap, registered}
use Rattle.substrate.specs.Tables.{processing_number, processing_table}
use Rattle.substrate.specs.declared.record.Processing.{Processing}
use Rattle.substrate.specs.declared.record.Processing.TheVariants as processing
use Rattle.process_job.specs.Tables.{job_number, job_table}
use Rattle.process_job.specs.Jobs.{job_numbered, change_numbered as change_job, fires_row, created}
use Rattle.process_job.specs.declared.job.JobSpec.{JobSpec}
use Rattle.process_job.specs.declared.job.ProcessJob.{ProcessJob}
use Rattle.process_job.specs.declared.record.JobState.{JobState}
use Rattle.process_job.specs.declared.record.JobState.TheVariants as state
use Rattle.control_job.specs.Tables.{states_number, control_table}
use Rattle.control_job.specs.Record as states
use Rattle.control_job.specs.Record.{is_completed}
use Rattle.control_job.specs.Jobs as control
use Rattle.control_job.specs.Jobs.{JobStore, job_numbered as control_numbered, fires_at, leaves, headed}
use Rattle.control_job.specs.declared.job.ControlJob.{ControlJob}
use Rattle.control_job.specs.declared.record.ControlState.TheVariants.{Executing}
use Rattle.control_job.specs.declared.record.Ending.TheVariants.{No}
use Rattle.control_job.specs.declared.record.ControlJobRecord.{ControlJobRecord}
use Rattle.control_job.proofs.Keeping.{leaves_number, fires_number}
use Rattle.tool_jobs.specs.Jobs.{Jobs}
use Rattle.tool_jobs.specs.Rows.{left_by, ended, process_starts}
use Rattle.tool_jobs.specs.Together.{AreTogether}
use Rattle.tool_jobs.specs.Creating.{with_process, with_control, control_fault}
use Rattle.tool_jobs.proofs.Rows.{after_meets}
use Rattle.floor_model.specs.declared.tracked.Substrate.{Substrate}
use Rattle.floor_model.specs.Floor.{ToolFloor, with_shop, with_jobs, with_module, fetched, substrate_numbered, change_numbered, number_of}
use Rattle.floor_model.specs.Jobs.{freed, found_sight, without_members}
use Rattle.floor_model.specs.Modules.{module_behind, open_task, number_named, aligned, aligned_numbered, aligned_by, stepped, stepped_numbered, stepped_by}
use Rattle.floor_model.specs.Views.{goes_on as goes_further}
use Rattle.floor_model.specs.Substrates.{reaches_verified, is_of, without_carrier, can_register, first_substrate, registers_at, registers_slot, registers_slots, registers_at_port, registers_found}
use Rattle.floor_model.specs.Machines.{floor_starts, floor_fired, registered_by, substrate_moves}
use Rattle.floor_moves.specs.Valid.{IsDistinct}
use Rattle.place_laws.specs.Picture.{picture, of_one}
use Rattle.place_laws.specs.Sound.{Sound}
use Rattle.picture_laws.proofs.Columns.{found_there, found_else, says_same}
use Rattle.floor_laws.proofs.JobLists.{job_number_is, fired_there, fired_else, without_else, found_more}
use Rattle.floor_laws.proofs.JobFires.{fired_jobs}
use Rattle.floor_laws.proofs.JobEnds.{freed_alone}
use Rattle.queue_laws.specs.Started.{is_left_in, AreStarted}
use Rattle.queue_laws.specs.Steers.{is_executing, goes_on, disturbs_control}
use Rattle.queue_laws.proofs.Lists.{number_is, numbered_changed}
use Rattle.queue_laws.proofs.Rows.{by_executing}
use Rattle.queue_laws.proofs.Owners.{is_same, states_left}
use Rattle.queue_laws.proofs.Starting as started
use Rattle.lot_laws.specs.Lot.{Executes, IsCalmBetween}
use Rattle.lot_laws.proofs.Going.{processing_same}
use Rattle.lot_laws.proofs.Orderly.{found_among_all}
use Rattle.lot_laws.proofs.Processes.{fifteen_is}
use Rattle.history_laws.specs.Calm.{is_job_left, disturbs}
use Rattle.lot_laws.proofs.Words.{process_words, control_words}

-- ---- states

-- ABORTED, STOPPED, LOST or SKIPPED, by numbers
abbrev pub Ended : ℕ → Type 0
Ended p = is_one_of (3 ∷ 4 ∷ 6 ∷ 7 ∷ []) p ≡ true

-- row 3 leads to none of these
done_ends : (p : Processing) → Ended (processing_number (after processing_number processing_table 3 p)) → processing_number (after processing_number processing_table 3 p) ≡ processing_number p
done_ends processing.NeedsProcessing e = refl
done_ends processing.InProcess e = absurd (true≢false (sym e))
done_ends processing.Processed e = refl
done_ends processing.Aborted e = refl
done_ends processing.Stopped e = refl
done_ends processing.Rejected e = refl
done_ends processing.Lost e = refl
done_ends processing.Skipped e = refl

-- rows by which a process job that goes on doesn't go on
abbrev unsettles : ℕ → Bool
unsettles row = is_one_of (3 ∷ 8 ∷ 11 ∷ 12 ∷ 17 ∷ 18 ∷ []) row

stays_going : (row : ℕ) (s : JobState) → unsettles row ≡ false → goes_on s ≡ true → goes_on (after job_number job_table row s) ≡ true
stays_going row state.Queued other e = after_meets job_number goes_on unsettles row state.Queued job_table other refl refl
stays_going row state.SettingUp other e = after_meets job_number goes_on unsettles row state.SettingUp job_table other refl refl
stays_going row state.Processing other e = after_meets job_number goes_on unsettles row state.Processing job_table other refl refl
stays_going row state.Complete other e = after_meets job_number goes_on unsettles row state.Complete job_table other refl refl
stays_going row _ other e = absurd (true≢false (sym e))

-- rows by which it executes no more
abbrev stills : ℕ → Bool
stills row = is_one_of (6 ∷ 8 ∷ 11 ∷ 12 ∷ []) row

stays_executing : (row : ℕ) (s : ControlJobRecord) → stills row ≡ false → (states_number s == 3) ≡ true → (states_number (states.control_fired row s) == 3) ≡ true
stays_executing row s other three =
    by_executing (λ (x : ControlJobRecord). (states_number (states.control_fired row x) == 3) ≡ true)
    (after_meets states_number (λ (x : ControlJobRecord). states_number x == 3) stills row (record { state = Executing; ending = No }) control_table other refl refl)
    s three

-- ---- rows that inputs fire

-- a row that an input fires, but for row 6 of table 7; or one of tables 1 to 6 and 8 to 11
abbrev pub is_input : Firing → Bool
is_input x =
    if x.row.table == 7 then not (x.row.row == 6)
    else (if x.row.table == 12 then false
    else (if x.row.table == 13 then is_one_of (3 ∷ 4 ∷ 8 ∷ []) x.row.row
    else (if x.row.table == 14 then is_one_of process_words x.row.row
    else (if x.row.table == 15 then is_one_of control_words x.row.row
    else (if x.row.table == 16 then is_one_of (5 ∷ 6 ∷ 7 ∷ 8 ∷ 9 ∷ 10 ∷ []) x.row.row else true)))))

-- ---- substrates

-- what processing says, by numbers
abbrev says : Substrate → ℕ
says s = processing_number s.states.processing

-- none says that it ended
none_ended : {P : Type 0} → Ended 0 → P
none_ended e = absurd (true≢false (sym e))

-- one more that NEEDS PROCESSING
more_says : (n : ℕ) (x : Substrate) → says x ≡ 0 → (ss : List Substrate) → Ended (of_one 0 says (substrate_numbered n (ss ++ x ∷ []))) → of_one 0 says (substrate_numbered n (ss ++ x ∷ [])) ≡ of_one 0 says (substrate_numbered n ss)
more_says n x needs [] = of (x.number == n) where
  of : (b : Bool) → Ended (of_one 0 says (if b then Some x else None)) → of_one 0 says (if b then Some x else None) ≡ 0
  of true e = needs
  of false e = refl
more_says n x needs (y ∷ ys) = of (y.number == n) (more_says n x needs ys) where
  of : (b : Bool) → (Ended (of_one 0 says (substrate_numbered n (ys ++ x ∷ []))) → of_one 0 says (substrate_numbered n (ys ++ x ∷ [])) ≡ of_one 0 says (substrate_numbered n ys))
      → Ended (of_one 0 says (if b then Some y else substrate_numbered n (ys ++ x ∷ []))) → of_one 0 says (if b then Some y else substrate_numbered n (ys ++ x ∷ [])) ≡ of_one 0 says (if b then Some y else substrate_numbered n ys)
  of true rest e = refl
  of false rest e = rest e

-- those that pass a test
passing_says : (q : Substrate → Bool) (n : ℕ) (ss : List Substrate) → IsDistinct (map number_of ss) → Ended (of_one 0 says (substrate_numbered n (filter q ss))) → of_one 0 says (substrate_numbered n (filter q ss)) ≡ of_one 0 says (substrate_numbered n ss)
passing_says q n ss distinct e = of (substrate_numbered n (filter q ss)) refl where
  of : (o : Option Substrate) → substrate_numbered n (filter q ss) ≡ o → of_one 0 says (substrate_numbered n (filter q ss)) ≡ of_one 0 says (substrate_numbered n ss)
  of None is = none_ended (sym (ap (λ (o : Option Substrate). is_one_of (3 ∷ 4 ∷ 6 ∷ 7 ∷ []) (of_one 0 says o)) is) ∙ e)
  of (Some s) is = ap (of_one 0 says) (is ∙ sym (found_among_all number_of q n ss s distinct is).0)

module _ (n : ℕ) (ss : List Substrate) where
  -- another one behind a row of processing of one
  other_says : (row k : ℕ) → (k ≡ n → ⊥) → of_one 0 says (substrate_numbered k (change_numbered n (substrate_moves 13 row) ss)) ≡ of_one 0 says (substrate_numbered k ss)
  other_says row k other = ap (of_one 0 says) (found_else n (substrate_moves 13 row) (λ s. refl) k other ss)

  -- any one behind row 3
  done_says : (k : ℕ) → Ended (of_one 0 says (substrate_numbered k (change_numbered n (substrate_moves 13 3) ss))) → of_one 0 says (substrate_numbered k (change_numbered n (substrate_moves 13 3) ss)) ≡ of_one 0 says (substrate_numbered k ss)
  done_says k e = by (k == n) refl where
    there : (o : Option Substrate) → Ended (of_one 0 says (option_map (substrate_moves 13 3) o)) → of_one 0 says (option_map (substrate_moves 13 3) o) ≡ of_one 0 says o
    there None f = refl
    there (Some s) f = done_ends s.states.processing f

    moved : substrate_numbered n (change_numbered n (substrate_moves 13 3) ss) ≡ option_map (substrate_moves 13 3) (substrate_numbered n ss)
    moved = found_there n (substrate_moves 13 3) (λ s. refl) ss

    at : Ended (of_one 0 says (substrate_numbered n (change_numbered n (substrate_moves 13 3) ss))) → of_one 0 says (substrate_numbered n (change_numbered n (substrate_moves 13 3) ss)) ≡ of_one 0 says (substrate_numbered n ss)
    at f = ap (of_one 0 says) moved ∙ there (substrate_numbered n ss) (sym (ap (λ (o : Option Substrate). is_one_of (3 ∷ 4 ∷ 6 ∷ 7 ∷ []) (of_one 0 says o)) moved) ∙ f)

    by : (b : Bool) → (k == n) ≡ b → of_one 0 says (substrate_numbered k (change_numbered n (substrate_moves 13 3) ss)) ≡ of_one 0 says (substrate_numbered k ss)
    by true q =
        let same : n ≡ k = sym ((Decides-eqb k n).0 q) in
        subst (λ (m : ℕ). Ended (of_one 0 says (substrate_numbered m (change_numbered n (substrate_moves 13 3) ss))) → of_one 0 says (substrate_numbered m (change_numbered n (substrate_moves 13 3) ss)) ≡ of_one 0 says (substrate_numbered m ss)) same at e
    by false q = other_says 3 k (λ same. true≢false (sym ((Decides-eqb k n).1 same) ∙ q))

-- ---- what is calm

module _ (number : ℕ) (counted : ℕ → Bool) (f : ToolFloor) where
  -- all that was done is
  abbrev pub Calm : ToolFloor → Type 0
  Calm h = IsCalmBetween number counted f h

  -- nothing was done
  pub calm_base : {planned : ℕ → List (List ℕ)} → Executes number planned counted f → Calm f
  calm_base e = record { executes = e.steers.executes; going = λ n j kept left. (j, kept, e.steers.going n j kept left); works = λ n is over. refl }

  -- where the jobs stay, and of counted substrates those that ended say what they said
  calm_says : (h k : ToolFloor) → k.jobs ≡ h.jobs → ((n : ℕ) → counted n ≡ true → Ended ((picture k).processing n) → (picture k).processing n ≡ (picture h).processing n) → Calm h → Calm k
  calm_says h k jobs same c = record {
    executes = ap (λ (w : Jobs). is_executing (control_numbered number w.control.jobs)) jobs ∙ c.executes;
    going = λ n j kept left. let i = c.going n j kept left in (i.0, ap (λ (w : Jobs). job_numbered n w.process.kept) jobs ∙ i.1, i.2);
    works = λ n is over. let s = same n is over in s ∙ c.works n is (ap (is_one_of (3 ∷ 4 ∷ 6 ∷ 7 ∷ [])) (sym s) ∙ over);
  }

  -- where load ports and carriers change, and where a command is fetched
  pub calm_shop : (s : Floor) (h : ToolFloor) → Calm h → Calm (with_shop s h)
  calm_shop s h c = calm_says h (with_shop s h) refl (λ n is over. refl) c

  pub calm_fetched : (m : ℕ) (h : ToolFloor) → Calm h → Calm (fetched m h)
  calm_fetched m h c = calm_says h (fetched m h) refl (λ n is over. refl) c

  -- ---- substrates are registered

  more : (h : ToolFloor) (p : PlaceMap) (x : Substrate) → says x ≡ 0 → Calm h → Calm (record h { places = p; substrates = h.substrates ++ x ∷ [] })
  more h p x needs c = calm_says h (record h { places = p; substrates = h.substrates ++ x ∷ [] }) refl (λ n is over. more_says n x needs h.substrates over) c

  at_place : (h : ToolFloor) (sub : List ℕ) (carrier : ℕ) (loc : LocId) → Calm h → Calm (registers_at sub carrier loc h)
  at_place h sub carrier loc c = of (can_register sub loc h.places) where
    of : (b : Bool) → Calm (if b then record h { places = registered sub loc h.places; substrates = h.substrates ++ first_substrate (h.places.given + 1) sub carrier loc ∷ [] } else h)
    of true = more h (registered sub loc h.places) (first_substrate (h.places.given + 1) sub carrier loc) refl c
    of false = c

  at_slot : (h : ToolFloor) (x : Carrier) (port : PortNo) (slot code : ℕ) → Calm h → Calm (registers_slot x port slot code h)
  at_slot h x port slot code c = of (code == 3) where
    of : (b : Bool) → Calm (if b then registers_at (name_in_slot x.name slot) x.number (Slot port (record { 0 = slot })) h else h)
    of true = at_place h (name_in_slot x.name slot) x.number (Slot port (record { 0 = slot })) c
    of false = c

  at_slots : (h : ToolFloor) (x : Carrier) (port : PortNo) (slot count : ℕ) (slots : List ℕ) → Calm h → Calm (registers_slots x port slot count slots h)
  at_slots h x port slot zero slots c = c
  at_slots h x port slot (suc count) [] c = c
  at_slots h x port slot (suc count) (code ∷ slots) c = at_slots (registers_slot x port slot code h) x port (slot + 1) count slots (at_slot h x port slot code c)

  calm_registered : (row carrier : ℕ) (h : ToolFloor) → Calm h → Calm (registered_by row carrier h)
  calm_registered row carrier h c = of (reaches_verified row) where
    at_port : (o : Option PortNo) (x : Carrier) → Calm (registers_at_port o x h)
    at_port None x = c
    at_port (Some port) x = at_slots h x port 1 25 x.map c

    by : (o : Option Carrier) → Calm (registers_found o h)
    by None = c
    by (Some x) = at_port x.port x

    of : (b : Bool) → Calm (if b then registers_found (carrier_numbered carrier h.shop.carriers) h else h)
    of true = by (carrier_numbered carrier h.shop.carriers)
    of false = c

  -- ---- a carrier is removed

  -- row 6 of table 7
  pub calm_removed : (port : ℕ) (h : ToolFloor) → IsDistinct (map number_of h.substrates) → Calm h → Calm (floor_fired (firing 7 port 6) h)
  calm_removed port h distinct c = calm_shop (shop.floor_fired (firing 7 port 6) h.shop) (without_carrier (owner_number port h.shop) h) (of (owner_number port h.shop)) where
    of : (o : Option ℕ) → Calm (without_carrier o h)
    of None = c
    of (Some carrier) = calm_says h (without_carrier (Some carrier) h) refl (λ n is over. passing_says (λ s. not (is_of carrier s)) n h.substrates distinct over) c

  -- ---- rows of table 13

  calm_processing : (n row : ℕ) (h : ToolFloor) → is_one_of (3 ∷ 4 ∷ 8 ∷ []) row ≡ true → (is_one_of (4 ∷ 5 ∷ 6 ∷ 7 ∷ 8 ∷ []) row && counted n) ≡ false → Calm h → Calm (floor_fired (firing 13 n row) h)
  calm_processing n row h one quiet c =
      one_of_cases (λ (r : ℕ). (is_one_of (4 ∷ 5 ∷ 6 ∷ 7 ∷ 8 ∷ []) r && counted n) ≡ false → Calm (floor_fired (firing 13 n r) h)) (3 ∷ 4 ∷ 8 ∷ []) row (
        (λ q. calm_says h (floor_fired (firing 13 n 3) h) refl (λ k is over. done_says n h.substrates k over) c),
        (
          (λ q. calm_says h (floor_fired (firing 13 n 4) h) refl (λ k is over. other_says n h.substrates 4 k (apart q k is)) c),
          ((λ q. calm_says h (floor_fired (firing 13 n 8) h) refl (λ k is over. other_says n h.substrates 8 k (apart q k is)) c), tt),
        ),
      ) one quiet
    where
      apart : counted n ≡ false → (k : ℕ) → counted k ≡ true → k ≡ n → ⊥
      apart out k is same = true≢false (sym is ∙ ap counted same ∙ out)

  -- ---- rows of table 14

  -- the row is none that disturbs, at the process job of a number
  abbrev Quiet : ℕ → ℕ → Type 0
  Quiet n row = (is_one_of (8 ∷ 11 ∷ 12 ∷ 15 ∷ 16 ∷ 17 ∷ 18 ∷ []) row && is_job_left number (job_numbered n f.jobs.process.kept) f.jobs) ≡ false

  module _ (n : ℕ) (h : ToolFloor) (c : Calm h) where
    -- one that was left in it goes on by the row
    abbrev Goes : ℕ → Type 0
    Goes row = (i : ProcessJob) → job_numbered n f.jobs.process.kept ≡ Some i → is_left_in number i.id f.jobs ≡ true → unsettles row ≡ false

    calm_fired : (row : ℕ) → Goes row → Calm (with_jobs (fired_jobs n row h.jobs) h)
    calm_fired row goes = record { executes = c.executes; going = λ m i kept left. of m i kept left (c.going m i kept left) (m == n) refl; works = c.works } where
      of : (m : ℕ) (i : ProcessJob) → job_numbered m f.jobs.process.kept ≡ Some i → is_left_in number i.id f.jobs ≡ true → (k : ProcessJob) × (job_numbered m h.jobs.process.kept ≡ Some k) × (goes_on k.states.state ≡ true) → (b : Bool) → (m == n) ≡ b
          → (k : ProcessJob) × (job_numbered m (change_job n (fires_row row) h.jobs.process.kept) ≡ Some k) × (goes_on k.states.state ≡ true)
      of m i kept left k true q =
          let same : m ≡ n = (Decides-eqb m n).0 q in (
            fires_row row k.0,
            subst (λ (x : ℕ). job_numbered x (change_job n (fires_row row) h.jobs.process.kept) ≡ Some (fires_row row k.0)) (sym same)
                (fired_there n row h.jobs.process.kept ∙ ap (option_map (fires_row row)) (subst (λ (x : ℕ). job_numbered x h.jobs.process.kept ≡ Some k.0) same k.1)),
            stays_going row k.0.states.state (goes i (subst (λ (x : ℕ). job_numbered x f.jobs.process.kept ≡ Some i) same kept) left) k.2,
          )
      of m i kept left k false q = (k.0, fired_else n row m (λ same. true≢false (sym ((Decides-eqb m n).1 same) ∙ q)) h.jobs.process.kept ∙ k.1, k.2)

    -- CANCEL of one that wasn't left in it
    module _ (j : ProcessJob) (known : job_numbered n h.jobs.process.kept ≡ Some j) (out : is_job_left number (job_numbered n f.jobs.process.kept) f.jobs ≡ false) where
      control_leaves : (o : Option ControlJob) → is_executing (option_map (leaves j.id) o) ≡ is_executing o
      control_leaves None = refl
      control_leaves (Some d) = ap (λ (x : ControlJobRecord). states_number x == 3) (states_left j.id d)

      control_same : is_executing (control_numbered number (ended n h.jobs).control.jobs) ≡ is_executing (control_numbered number h.jobs.control.jobs)
      control_same =
          ap (λ (o : Option ProcessJob). is_executing (control_numbered number (left_by o h.jobs.control).jobs)) known
          ∙ ap is_executing (numbered_changed (leaves j.id) number h.jobs.control.jobs (leaves_number j.id))
          ∙ control_leaves (control_numbered number h.jobs.control.jobs)

      calm_ended : Calm (with_jobs (ended n h.jobs) (without_members j.number h))
      calm_ended = record {
        executes = control_same ∙ c.executes;
        going = λ m i kept left. let k = c.going m i kept left in (k.0, without_else n m (apart m i kept left) h.jobs.process.kept ∙ k.1, k.2);
        works = λ m is over.
            let same = processing_same h (freed j.number) (freed_alone j.number) (ended n h.jobs) m in
            same ∙ c.works m is (ap (is_one_of (3 ∷ 4 ∷ 6 ∷ 7 ∷ [])) (sym same) ∙ over);
      } where
        apart : (m : ℕ) (i : ProcessJob) → job_numbered m f.jobs.process.kept ≡ Some i → is_left_in number i.id f.jobs ≡ true → m ≡ n → ⊥
        apart m i kept left same =
            true≢false (sym left ∙ sym (ap (λ (o : Option ProcessJob). is_job_left number o f.jobs) (subst (λ (x : ℕ). job_numbered x f.jobs.process.kept ≡ Some i) same kept)) ∙ out)

    calm_process : (row : ℕ) → is_one_of process_words row ≡ true → Quiet n row → floor_starts (firing 14 n row) h ≡ true → Calm (floor_fired (firing 14 n row) h)
    calm_process row one quiet starts = of (job_numbered n h.jobs.process.kept) refl starts where
      never : {P : Type 0} → is_job_left number (job_numbered n f.jobs.process.kept) f.jobs ≡ false → (i : ProcessJob) → job_numbered n f.jobs.process.kept ≡ Some i → is_left_in number i.id f.jobs ≡ true → P
      never out i kept left = absurd (true≢false (sym left ∙ sym (ap (λ (o : Option ProcessJob). is_job_left number o f.jobs) kept) ∙ out))

      of : (o : Option ProcessJob) → job_numbered n h.jobs.process.kept ≡ o → process_starts row o (found_sight o h) h.jobs ≡ true → Calm (floor_fired (firing 14 n row) h)
      of None known st = absurd (true≢false (sym st))
      of (Some j) known st = one_of_cases (λ (r : ℕ). Quiet n r → Calm (floor_fired (firing 14 n r) h)) process_words row (
        (λ q. calm_fired 1 (λ i kept left. refl)),
        (
          (λ q. calm_fired 5 (λ i kept left. refl)),
          (
            (λ q. calm_fired 8 (λ i kept left. never q i kept left)),
            (
              (λ q. calm_fired 10 (λ i kept left. refl)),
              (
                (λ q. calm_fired 11 (λ i kept left. never q i kept left)),
                ((λ q. calm_fired 12 (λ i kept left. never q i kept left)), ((λ q. subst Calm (sym (fifteen_is h n j known)) (calm_ended j known q)), tt)),
              ),
            ),
          ),
        ),
      ) one quiet

  -- ---- rows of table 15

  -- where the control job executes still
  calm_jobs : (s : JobStore) (h : ToolFloor) → (is_executing (control_numbered number h.jobs.control.jobs) ≡ true → is_executing (control_numbered number s.jobs) ≡ true) → Calm h → Calm (with_jobs (record h.jobs { control = s }) h)
  calm_jobs s h on c = record { executes = on c.executes; going = c.going; works = c.works }

  calm_control : (m row : ℕ) (h : ToolFloor) → is_one_of control_words row ≡ true → disturbs_control number m row ≡ false → Calm h → Calm (floor_fired (firing 15 m row) h)
  calm_control m row h one quiet = calm_jobs (control.fired_at m row h.jobs.control) h on where
    other : is_one_of (6 ∷ 11 ∷ 12 ∷ []) row ≡ false → stills row ≡ false
    other out = one_of_cases (λ (r : ℕ). is_one_of (6 ∷ 11 ∷ 12 ∷ []) r ≡ false → stills r ≡ false) control_words row (
      (λ q. refl),
      ((λ q. refl), ((λ q. q), ((λ q. refl), ((λ q. refl), ((λ q. refl), ((λ q. q), ((λ q. q), tt))))))),
    ) one out

    at : (o : Option ControlJob) → control_numbered number h.jobs.control.jobs ≡ o → is_executing o ≡ true → is_executing (option_map (fires_at m row) o) ≡ true
    at None found is = is
    at (Some d) found is = of (d.number == m) refl where
      of : (b : Bool) → (d.number == m) ≡ b → (states_number (if b then control.fires_row row d else d).states == 3) ≡ true
      of false q = is
      of true q =
          let itself : (m == number) ≡ true = is_same m number (sym ((Decides-eqb d.number m).0 q) ∙ number_is number h.jobs.control.jobs d found) in
          stays_executing row d.states (other (sym (ap (λ (b : Bool). b && is_one_of (6 ∷ 11 ∷ 12 ∷ []) row) itself) ∙ quiet)) is

    on : is_executing (control_numbered number h.jobs.control.jobs) ≡ true → is_executing (control_numbered number (control.fired_at m row h.jobs.control).jobs) ≡ true
    on is = ap is_executing (numbered_changed (fires_at m row) number h.jobs.control.jobs (fires_number m row)) ∙ at (control_numbered number h.jobs.control.jobs) refl is

  -- ---- rows of table 16

  calm_aligned : (o : Option Task) (h : ToolFloor) → Calm h → Calm (aligned_by o h)
  calm_aligned None h c = c
  calm_aligned (Some (task.Pick sub from)) h c = c
  calm_aligned (Some (task.Place sub to)) h c = c
  calm_aligned (Some (task.Process sub recipe)) h c = c
  calm_aligned (Some (task.Align sub)) h c = of (number_named sub h.places) where
    of : (o : Option ℕ) → Calm (record h { substrates = aligned_numbered o h.substrates })
    of None = calm_says h (record h { substrates = h.substrates }) refl (λ n is over. refl) c
    of (Some n) = calm_says h (record h { substrates = change_numbered n aligned h.substrates }) refl (λ k is over. says_same n aligned (λ s. refl) 0 says (λ s. refl) k h.substrates) c

  calm_stepped : (o : Option Task) (h : ToolFloor) → Calm h → Calm (stepped_by o h)
  calm_stepped None h c = c
  calm_stepped (Some (task.Pick sub from)) h c = c
  calm_stepped (Some (task.Place sub to)) h c = c
  calm_stepped (Some (task.Align sub)) h c = c
  calm_stepped (Some (task.Process sub recipe)) h c = of (number_named sub h.places) where
    same : Calm (record h { substrates = h.substrates })
    same = calm_says h (record h { substrates = h.substrates }) refl (λ n is over. refl) c

    by : (n : ℕ) (b : Bool) → Calm (record h { substrates = if b then change_numbered n stepped h.substrates else h.substrates })
    by n true = calm_says h (record h { substrates = change_numbered n stepped h.substrates }) refl (λ k is over. says_same n stepped (λ s. refl) 0 says (λ s. refl) k h.substrates) c
    by n false = same

    of : (o : Option ℕ) → Calm (record h { substrates = stepped_numbered o h })
    of None = same
    of (Some n) = by n (goes_further (substrate_numbered n h.substrates) h)

  calm_module : (m row : ℕ) (h : ToolFloor) → is_one_of (5 ∷ 6 ∷ 7 ∷ 8 ∷ 9 ∷ 10 ∷ []) row ≡ true → is_one_of (8 ∷ 9 ∷ []) row ≡ false → Calm h → Calm (floor_fired (firing 16 m row) h)
  calm_module m row h one quiet c =
      one_of_cases (λ (r : ℕ). is_one_of (8 ∷ 9 ∷ []) r ≡ false → Calm (floor_fired (firing 16 m r) h)) (5 ∷ 6 ∷ 7 ∷ 8 ∷ 9 ∷ 10 ∷ []) row (
        (λ q. calm_says h (floor_fired (firing 16 m 5) h) refl (λ n is over. refl) c),
        (
          (λ q. aligned_there (open_task (module_at m h.modules))),
          (
            (λ q. stepped_there (open_task (module_at m h.modules))),
            ((λ q. absurd (true≢false q)), ((λ q. absurd (true≢false q)), ((λ q. calm_says h (floor_fired (firing 16 m 10) h) refl (λ n is over. refl) c), tt))),
          ),
        ),
      ) one quiet
    where
      stepped_there : (o : Option Task) → Calm (with_module m (module_behind 7) (stepped_by o h))
      stepped_there o = calm_says (stepped_by o h) (with_module m (module_behind 7) (stepped_by o h)) refl (λ n is over. refl) (calm_stepped o h c)

      aligned_there : (o : Option Task) → Calm (with_module m (module_behind 6) (aligned_by o h))
      aligned_there o = calm_says (aligned_by o h) (with_module m (module_behind 6) (aligned_by o h)) refl (λ n is over. refl) (calm_aligned o h c)

  -- ---- all of them

  association : (port row : ℕ) (h : ToolFloor) → not (row == 6) ≡ true → Calm h → Calm (floor_fired (firing 7 port row) h)
  association port row h other c = of (row == 6) other where
    of : (b : Bool) → not b ≡ true → Calm (with_shop (shop.floor_fired (firing 7 port row) h.shop) (if b then without_carrier (owner_number port h.shop) h else h))
    of true q = absurd (true≢false (sym q))
    of false q = calm_shop (shop.floor_fired (firing 7 port row) h.shop) h c

  slots : (carrier row : ℕ) (h : ToolFloor) → Calm h → Calm (floor_fired (firing 9 carrier row) h)
  slots carrier row h c = calm_shop (shop.floor_fired (firing 9 carrier row) h.shop) (registered_by row carrier h) (calm_registered row carrier h c)

  -- a row that an input fires, and that doesn't disturb it
  pub calm_row : (x : Firing) (h : ToolFloor) → floor_starts x h ≡ true → is_input x ≡ true → disturbs number counted f x ≡ false → Calm h → Calm (floor_fired x h)
  calm_row x h starts input quiet c = starts_cases (λ (y : Firing). is_input y ≡ true → disturbs number counted f y ≡ false → Calm (floor_fired y h)) h x (record {
    transfer = λ s i q. calm_shop (shop.floor_fired (firing 4 x.object x.row.row) h.shop) h c;
    access = λ s i q. calm_shop (shop.floor_fired (firing 5 x.object x.row.row) h.shop) h c;
    reservation = λ s i q. calm_shop (shop.floor_fired (firing 6 x.object x.row.row) h.shop) h c;
    association = λ s i q. association x.object x.row.row h i c;
    id = λ s i q. calm_shop (shop.floor_fired (firing 8 x.object x.row.row) h.shop) h c;
    map = λ s i q. slots x.object x.row.row h c;
    accessing = λ s i q. calm_shop (shop.floor_fired (firing 10 x.object x.row.row) h.shop) h c;
    location = λ s i q. calm_says h (floor_fired (firing 11 x.object x.row.row) h) refl (λ n is over. refl) c;
    transport = λ s i q. absurd (true≢false (sym i));
    processing = λ s i q. calm_processing x.object x.row.row h i q c;
    process_job = λ s i q. calm_process x.object h c x.row.row i q s;
    control_job = λ s i q. calm_control x.object x.row.row h i q c;
    move = λ s i q. calm_module x.object x.row.row h i q c;
  }) starts input quiet

  -- ---- jobs

  -- a process job is created
  pub calm_created : (spec : JobSpec) (h : ToolFloor) → Sound h → Calm h → Calm (with_jobs (with_process spec h.jobs) h)
  calm_created spec h sound c = record {
    executes = c.executes;
    going = λ m i kept left.
        let k = c.going m i kept left in
        let less = (job_number_is m 0 h.jobs.process.given h.jobs.process.kept k.0 sound.base.jobs.numbered k.1).2 in (
          k.0,
          found_more m (created (h.jobs.process.given + 1) spec) h.jobs.process.kept (λ same. absurd (omega (arith, less, same))) ∙ k.1,
          k.2,
        );
    works = c.works;
  }

  -- a control job is created
  pub calm_added : (name : List ℕ) (named : List (List ℕ)) (auto : Bool) (h : ToolFloor) → AreTogether h.jobs → AreStarted h.jobs → control_fault name named h.jobs ≡ None → Calm h → Calm (with_jobs (with_control name named auto h.jobs) h)
  calm_added name named auto h t s free = calm_jobs (with_control name named auto h.jobs).control h on where
    at : (o : Option ControlJob) → control_numbered number h.jobs.control.jobs ≡ o → is_executing o ≡ true → is_executing (control_numbered number (with_control name named auto h.jobs).control.jobs) ≡ true
    at None found is = absurd (true≢false (sym is))
    at (Some d) found is =
        ap is_executing (started.open_stays h.jobs t s name named auto number d free found (by_executing (λ (x : ControlJobRecord). not (is_completed x.state) ≡ true) refl d.states is)) ∙ is

    on : is_executing (control_numbered number h.jobs.control.jobs) ≡ true → is_executing (control_numbered number (with_control name named auto h.jobs).control.jobs) ≡ true
    on is = at (control_numbered number h.jobs.control.jobs) refl is

  -- the order of the queue changes
  pub calm_headed : (name : List ℕ) (h : ToolFloor) → Calm h → Calm (with_jobs (record h.jobs { control = headed name h.jobs.control }) h)
  calm_headed name h = calm_jobs (headed name h.jobs.control) h (λ is. is)
