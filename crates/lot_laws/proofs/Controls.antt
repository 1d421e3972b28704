-- A row of a control job leaves an executing one as it is, unless it completes; it completes where nothing is owed, and at rest it has.
use Rattle.std.proofs.Common.{◌≡◌, ◌≤◌, ℕ, ◌+◌, ◌==◌, Bool, true, false, cond, not, ◌&&◌, ◌||◌, List, [], ◌∷◌, Option, Some, None, bytes_eq, refl, sym, ◌∙◌, ap, subst, ◌⊎◌, inl, inr, arith}
use Rattle.std.specs.List.{list_all}
use Rattle.std.proofs.lemmas.Bool.{true≢false, and_parts, or_right}
use Rattle.std.proofs.lemmas.Bool.Decides.{Decides-eqb}
use Rattle.gem_tables.specs.Table.{is_one_of, firing, first_itself}
use Rattle.gem_tables.proofs.Rows.{both}
use Rattle.substrate.specs.Record.{is_finished}
use Rattle.process_job.specs.Tables as want
use Rattle.process_job.specs.Tables.{JobWant, job_number, job_table}
use Rattle.process_job.specs.Jobs.{job_numbered, has_name, is_known}
use Rattle.process_job.specs.declared.record.JobState.{JobState}
use Rattle.process_job.specs.declared.record.JobState.TheVariants as state
use Rattle.process_job.specs.declared.job.ProcessJob.{ProcessJob}
use Rattle.records.proofs.Texts.{same_name, own_name}
use Rattle.control_job.specs.Tables.{state_number, states_number}
use Rattle.control_job.specs.Names.{is_in}
use Rattle.control_job.specs.Jobs.{job_numbered as control_numbered, owns, is_open, fired_at}
use Rattle.control_job.specs.declared.job.ControlJob.{ControlJob}
use Rattle.control_job.specs.declared.record.ControlJobRecord.{ControlJobRecord}
use Rattle.control_job.proofs.Called.{numbered_in}
use Rattle.tool_jobs.specs.Jobs.{owner}
use Rattle.tool_jobs.specs.Wants.{process_wants, is_none_left, is_ending, is_first, is_first_left}
use Rattle.tool_jobs.specs.Rows.{control_starts, control_ready, process_ready}
use Rattle.tool_jobs.specs.Together.{AreTogether}
use Rattle.floor_model.specs.declared.tracked.Substrate.{Substrate}
use Rattle.floor_model.specs.Floor.{ToolFloor, substrate_numbered, number_of}
use Rattle.floor_model.specs.Floor.{RiseTo}
use Rattle.floor_model.specs.Substrates.{is_in_slot, is_removed}
use Rattle.floor_model.specs.Jobs.{is_member, is_done_with, is_settled, is_here, sight, found_sight, is_first_here}
use Rattle.floor_model.specs.Machines.{floor_fired, floor_least, process_numbers}
use Rattle.floor_model.proofs.AtRest.{none_ready}
use Rattle.floor_moves.specs.Floor as law
use Rattle.floor_moves.specs.Floor.{Loc, is_done}
use Rattle.place_laws.specs.Picture.{picture}
use Rattle.place_laws.specs.Sound.{Sound}
use Rattle.place_laws.proofs.Holding.{one_found, found_among}
use Rattle.floor_laws.proofs.JobSight.{none_some, in_slot_from, removed_from}
use Rattle.floor_laws.proofs.JobWork.{finished_same}
use Rattle.floor_laws.proofs.JobSays.{said_there}
use Rattle.owed_laws.specs.Owed.{owed_to}
use Rattle.owed_laws.proofs.Beginning.{step_to_come, nothing_left, each_done}
use Rattle.queue_laws.specs.Started.{is_left_in, AreStarted}
use Rattle.queue_laws.specs.Steers.{has_none_left, goes_on, disturbs_control, is_completion}
use Rattle.queue_laws.proofs.Rows.{active_open, executed, by_executing}
use Rattle.queue_laws.proofs.Owners.{owner_is, none_owned}
use Rattle.queue_laws.proofs.Steering.{Found, found_executing, left_owned, owned_left, control-steers, control_left, completes, left_kept}
use Rattle.lot_laws.specs.Lot.{IsInJob, Waits, Executes}
use Rattle.lot_laws.proofs.Naming.{any_numbered}
use Rattle.lot_laws.proofs.Standing.{on_base, member_left}
use Rattle.lot_laws.proofs.AtWork.{at_work_of}
use Rattle.lot_laws.proofs.Planned.{are_planned}
use Rattle.lot_laws.proofs.Steering.{row_names}
use Rattle.lot_laws.proofs.Going.{controls-execute}

-- ---- at rest

-- a job that is found is one of the numbers
job_in : (n : ℕ) (js : List ProcessJob) (j : ProcessJob) → job_numbered n js ≡ Some j → is_one_of (process_numbers js) n ≡ true
job_in n [] j e = none_some j e
job_in n (x ∷ xs) j e = of (x.number == n) e (job_in n xs j) where
  of : (b : Bool) → (cond b (Some x) (job_numbered n xs)) ≡ Some j → (job_numbered n xs ≡ Some j → is_one_of (process_numbers xs) n ≡ true) → (b || is_one_of (process_numbers xs) n) ≡ true
  of true f later = refl
  of false f later = later f

-- what is true of each that is found by its number is true of all, where numbers rise
all_numbered : (test : Substrate → Bool) (last given : ℕ) (ss : List Substrate) → RiseTo last given ss → ((n : ℕ) (s : Substrate) → substrate_numbered n ss ≡ Some s → test s ≡ true) → list_all test ss ≡ true
all_numbered test last given [] rising h = refl
all_numbered test last given (x ∷ xs) rising h =
    both (test x) (list_all test xs) (h x.number x (ap (λ (b : Bool). cond b (Some x) (substrate_numbered x.number xs)) ((Decides-eqb x.number x.number).1 refl)))
    (all_numbered test x.number given xs rising.1 (λ n s f. h n s (ap (λ (b : Bool). cond b (Some x) (substrate_numbered n xs)) (other n s f) ∙ f)))
  where
    past : (n low most : ℕ) (ys : List Substrate) (s : Substrate) → RiseTo low most ys → substrate_numbered n ys ≡ Some s → low + 1 ≤ n
    past n low most [] s r f = none_some s f
    past n low most (y ∷ ys) s r f = of (y.number == n) refl f (past n y.number most ys s r.1) where
      of : (b : Bool) → (y.number == n) ≡ b → cond b (Some y) (substrate_numbered n ys) ≡ Some s → (substrate_numbered n ys ≡ Some s → y.number + 1 ≤ n) → low + 1 ≤ n
      of true t g later = let same = (Decides-eqb y.number n).0 t in let less = r.0 in omega (arith, same, less)
      of false t g later = let more = later g in let less = r.0 in omega (arith, more, less)

    other : (n : ℕ) (s : Substrate) → substrate_numbered n xs ≡ Some s → (x.number == n) ≡ false
    other n s f = by (x.number == n) refl where
      by : (b : Bool) → (x.number == n) ≡ b → b ≡ false
      by false q = refl
      by true q = let same = (Decides-eqb x.number n).0 q in let more = past n x.number given xs s rising.1 f in absurd (omega (arith, same, more))

-- ---- what is ready at a process job that goes on

module _ (finds : JobWant → Bool) where
  ready_queued : finds want.first_left ≡ true → first_itself job_number finds job_table state.Queued ≡ Some 2
  ready_queued e = rw e refl

  ready_set_up : finds want.start_by_hand ≡ false → finds want.automatic_start ≡ true → first_itself job_number finds job_table state.SettingUp ≡ Some 4
  ready_set_up e g = rw (e, g) refl

  ready_processing : finds want.settled ≡ true → first_itself job_number finds job_table state.Processing ≡ Some 6
  ready_processing e = rw e refl

  ready_complete : finds want.nothing_more ≡ true → first_itself job_number finds job_table state.Complete ≡ Some 7
  ready_complete e = rw e refl

  -- one that goes on isn't at rest
  goes_ready : (s : JobState) → goes_on s ≡ true → (s ≡ state.Queued → finds want.first_left ≡ true) → finds want.start_by_hand ≡ false → finds want.automatic_start ≡ true
      → (s ≡ state.Processing → finds want.settled ≡ true) → finds want.nothing_more ≡ true → first_itself job_number finds job_table s ≡ None → ⊥
  goes_ready state.Queued g first hand auto settled more none = none_some 2 (sym none ∙ ready_queued (first refl))
  goes_ready state.SettingUp g first hand auto settled more none = none_some 4 (sym none ∙ ready_set_up hand auto)
  goes_ready state.Processing g first hand auto settled more none = none_some 6 (sym none ∙ ready_processing (settled refl))
  goes_ready state.Complete g first hand auto settled more none = none_some 7 (sym none ∙ ready_complete more)
  goes_ready _ g first hand auto settled more none = absurd (true≢false (sym g))

-- EXECUTING and not ending, as its rows read it
three_reads : (s : ControlJobRecord) → (states_number s == 3) ≡ true → ((state_number s.state == 3) && not (is_ending s.ending)) ≡ true
three_reads s e = by_executing (λ (x : ControlJobRecord). ((state_number x.state == 3) && not (is_ending x.ending)) ≡ true) refl s e

module _ (number : ℕ) (planned : ℕ → List (List ℕ)) (counted : ℕ → Bool) (f : ToolFloor) (h : Sound f) (t : AreTogether f.jobs) (s : AreStarted f.jobs) (e : Executes number planned counted f) where
  -- ---- rows that leave it as it is

  pub control-executes : (row m : ℕ) (d : ControlJob) → control_numbered m f.jobs.control.jobs ≡ Some d → control_starts row (Some d) (is_first_here m f) f.jobs ≡ true
      → disturbs_control number m row ≡ false → is_completion number m row ≡ false → Executes number planned counted (floor_fired (firing 15 m row) f)
  control-executes row m d at starts calm on =
      controls-execute number planned counted f (fired_at m row f.jobs.control) (λ job. control_left number f.jobs t s e.steers row m (is_first_here m f) d at starts calm on job)
      (row_names number f.jobs f.jobs t s (at_work_of number planned counted f e).steers row m) t s e
      (control-steers number f.jobs t s e.steers row m (is_first_here m f) d at starts calm on)

  -- ---- it completes

  mine : Found number f.jobs
  mine = found_executing number f.jobs e.steers.executes

  -- where no process job is left in it, each counted one is done
  none_left_owed : has_none_left (control_numbered number f.jobs.control.jobs) ≡ true → owed_to planned counted (picture f) ≡ 0
  none_left_owed none = nothing_left planned counted (picture f) (λ n kept is. let x = one_found number_of n f.substrates kept in by n x.0 x.1 (e.stands n x.0 x.1 is)) where
    never : (job : List ℕ) → is_left_in number job f.jobs ≡ true → ⊥
    never job left = none_owned job mine.job (subst (λ (o : Option ControlJob). has_none_left o ≡ true) mine.at none) (left_owned number job f.jobs mine.job mine.at left)

    by : (n : ℕ) (x : Substrate) → substrate_numbered n f.substrates ≡ Some x → (is_done n (picture f) ≡ true) ⊎ (IsInJob number (planned n) x f ⊎ Waits number (planned n) x f) → is_done n (picture f) ≡ true
    by n x found (inl done) = done
    by n x found (inr (inl its)) = absurd (never its.0.id (member_left number planned counted f (on_base f h.base) e n x its.0 found its.1))
    by n x found (inr (inr w)) = absurd (never w.job.id w.left)

  -- so nothing is owed where its completion is ready
  pub completion_owes_none : (here : Bool) (row : ℕ) → control_ready (control_numbered number f.jobs.control.jobs) here f.jobs ≡ Some row → owed_to planned counted (picture f) ≡ 0
  completion_owes_none here row ready = none_left_owed (of (has_none_left (control_numbered number f.jobs.control.jobs)) (sym (completes number f.jobs t s e.steers here) ∙ ready)) where
    of : (b : Bool) → cond b (Some 8) None ≡ Some row → b ≡ true
    of true q = refl
    of false q = none_some row q

  -- ---- at rest something is owed

  -- where each counted one is done, a job is settled
  all_settled : owed_to planned counted (picture f) ≡ 0 → (n : ℕ) (j : ProcessJob) → job_numbered n f.jobs.process.kept ≡ Some j → j.number ≡ n → is_settled j.number f ≡ true
  all_settled zero n j kept same = all_numbered (is_done_with j.number f.places) 0 f.places.given f.substrates h.base.rising each where
    back : (k : ℕ) (x : Substrate) → substrate_numbered k f.substrates ≡ Some x → is_done k (picture f) ≡ true → (is_finished x.states.processing && (is_in_slot x f.places || is_removed x f.places)) ≡ true
    back k x found done =
        let parts = and_parts (law.is_finished ((picture f).processing k)) (not (law.is_outside ((picture f).place_of k))) done in
        both (is_finished x.states.processing) (is_in_slot x f.places || is_removed x f.places) (sym (finished_same f h.base k x found) ∙ parts.0) (at ((picture f).place_of k) refl parts.1)
      where
        or_first : (a b : Bool) → a ≡ true → (a || b) ≡ true
        or_first true b q = refl
        or_first false b q = absurd (true≢false (sym q))

        at : (l : Option Loc) → (picture f).place_of k ≡ l → not (law.is_outside l) ≡ true → (is_in_slot x f.places || is_removed x f.places) ≡ true
        at None q g = or_right (is_in_slot x f.places) (is_removed x f.places) (removed_from f h.base k x found q)
        at (Some (law.slot p i)) q g = or_first (is_in_slot x f.places) (is_removed x f.places) (in_slot_from f h.base k x found (q ∙ ap (λ (l : Loc). Some l) (h.valid.places.home k p i q)))
        at _ q g = absurd (true≢false (sym g))

    each : (k : ℕ) (x : Substrate) → substrate_numbered k f.substrates ≡ Some x → is_done_with j.number f.places x ≡ true
    each k x found = of (is_member j.number x) refl where
      of : (b : Bool) → is_member j.number x ≡ b → (not b || (is_finished x.states.processing && (is_in_slot x f.places || is_removed x f.places))) ≡ true
      of false q = refl
      of true q =
          let its : job_numbered x.job f.jobs.process.kept ≡ Some j = subst (λ (i : ℕ). job_numbered i f.jobs.process.kept ≡ Some j) (sym same ∙ sym ((Decides-eqb x.job j.number).0 q)) kept in
          let is = e.members k (said_there f.substrates f.jobs k false (λ i. true) x j found its) in
          back k x found (each_done planned counted (picture f) h.valid (step_to_come planned (picture f) h.valid (are_planned number planned counted f h.base e)) zero k (found_among number_of k f.substrates x found) is)

  -- the first that is left in it isn't at rest
  first_not_at_rest : owed_to planned counted (picture f) ≡ 0 → (name : List ℕ) (names : List (List ℕ)) → mine.job.left ≡ name ∷ names
      → ((o : ℕ) → is_one_of (process_numbers f.jobs.process.kept) o ≡ true → process_ready (job_numbered o f.jobs.process.kept) (found_sight (job_numbered o f.jobs.process.kept) f) f.jobs ≡ None) → ⊥
  first_not_at_rest zero name names is rest =
      let its_own : owns name mine.job ≡ true = both (is_open mine.job) (is_in name mine.job.left) (ap not (active_open mine.job.states.state (executed mine.job.states mine.three).active)) (ap (is_in name) is ∙ ap (λ (b : Bool). b || is_in name names) (own_name name)) in
      let known : is_known name f.jobs.process.kept ≡ true = left_kept number f.jobs t s e.steers name (owned_left number name f.jobs mine.job mine.at its_own) in
      let w = any_numbered (has_name name) 0 f.jobs.process.given f.jobs.process.kept h.base.jobs.numbered known in
      at w.0 w.1 (same_name w.0.id name w.2) its_own
    where
      at : (j : ProcessJob) → job_numbered j.number f.jobs.process.kept ≡ Some j → j.id ≡ name → owns name mine.job ≡ true → ⊥
      at j found same its_own =
          let owned : owns j.id mine.job ≡ true = subst (λ (n : List ℕ). owns n mine.job ≡ true) (sym same) its_own in
          let left : is_left_in number j.id f.jobs ≡ true = owned_left number j.id f.jobs mine.job mine.at owned in
          let auto = e.steers.auto j.number j found left in
          let first : is_first_left j.id (owner j.id f.jobs) ≡ true =
          ap (is_first_left j.id) (owner_is j.id number f.jobs mine.job t mine.at owned)
          ∙ both ((state_number mine.job.states.state == 3) && not (is_ending mine.job.states.ending)) (is_first j.id mine.job.left) (three_reads mine.job.states mine.three) (ap (is_first j.id) is ∙ ap (bytes_eq name) same ∙ own_name name) in
          let none : first_itself job_number (λ x. process_wants x j (sight j f) f.jobs) job_table j.states.state ≡ None =
          subst (λ (o : Option ProcessJob). process_ready o (found_sight o f) f.jobs ≡ None) found (rest j.number (job_in j.number f.jobs.process.kept j found)) in
          goes_ready (λ x. process_wants x j (sight j f) f.jobs) j.states.state (e.steers.going j.number j found left)
          (λ q. both (is_first_left j.id (owner j.id f.jobs)) (is_here j f.shop) first (e.here j.number j found left))
          (ap not auto) auto (λ q. all_settled zero j.number j found refl) refl none

  pub rest_owes : floor_least f ≡ None → owed_to planned counted (picture f) ≡ 0 → ⊥
  rest_owes rest zero = by_left mine.job.left refl where
    controls : control_ready (control_numbered number f.jobs.control.jobs) (is_first_here number f) f.jobs ≡ None
    controls = (none_ready f rest).control_job number (numbered_in number mine.job f.jobs.control.jobs mine.at)

    by_left : (names : List (List ℕ)) → mine.job.left ≡ names → ⊥
    by_left [] q =
        let none : has_none_left (control_numbered number f.jobs.control.jobs) ≡ true = ap has_none_left mine.at ∙ ap is_none_left q in
        none_some 8 (sym controls ∙ completes number f.jobs t s e.steers (is_first_here number f) ∙ ap (λ (b : Bool). cond b (Some 8) None) none)
    by_left (name ∷ names) q = first_not_at_rest zero name names q (none_ready f rest).process_job
