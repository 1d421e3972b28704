-- A control job that is at work stays so where the state of a process job changes, where one ends or is created, and where other
-- control jobs change.
use Rattle.std.proofs.Common.{◌≡◌, ℕ, ◌+◌, ◌==◌, Bool, true, false, cond, not, ◌&&◌, List, [], ◌∷◌, Option, Some, None, bytes_eq, refl, sym, ◌∙◌, ap, subst, ◌⊎◌, inl, inr}
use Rattle.std.proofs.lemmas.Bool.{true≢false}
use Rattle.gem_tables.specs.Table.{is_one_of, row_of, after, found_starts}
use Rattle.gem_tables.proofs.Rows.{one_of_cases}
use Rattle.process_job.specs.Tables.{job_number, job_table}
use Rattle.process_job.specs.Jobs as process
use Rattle.process_job.specs.Jobs.{is_known}
use Rattle.process_job.specs.Creating.{create_fault as process_fault}
use Rattle.process_job.specs.declared.job.ProcessJob.{ProcessJob}
use Rattle.process_job.specs.declared.job.JobSpec.{JobSpec}
use Rattle.process_job.proofs.Faults.{is_free}
use Rattle.control_job.specs.Tables.{ControlWant, control_table, states_number}
use Rattle.control_job.specs.Record as states
use Rattle.control_job.specs.Record.{is_active}
use Rattle.control_job.specs.Names.{itself, is_in, others}
use Rattle.control_job.specs.Jobs as control
use Rattle.control_job.specs.Jobs.{JobStore, owns, is_open, fires_row, fires_at, left_behind, leaves, new_job}
use Rattle.control_job.specs.declared.job.ControlJob.{ControlJob}
use Rattle.control_job.specs.declared.record.ControlState.{ControlState}
use Rattle.control_job.specs.declared.record.ControlState.TheVariants.{Executing, Paused}
use Rattle.control_job.specs.declared.record.Ending.{Ending}
use Rattle.control_job.specs.declared.record.Ending.TheVariants.{No, ByStop, ByAbort}
use Rattle.control_job.specs.declared.record.ControlJobRecord.{ControlJobRecord}
use Rattle.control_job.proofs.Keeping.{leaves_number, fires_number}
use Rattle.records.proofs.Apart.{without_none}
use Rattle.tool_jobs.specs.Jobs.{Jobs}
use Rattle.tool_jobs.specs.Wants.{is_ending}
use Rattle.tool_jobs.specs.Rows.{left_by, ended, control_fired}
use Rattle.tool_jobs.specs.Together.{AreTogether}
use Rattle.tool_jobs.specs.Creating.{with_process, with_control, control_fault}
use Rattle.tool_jobs.proofs.Control.{owns_left}
use Rattle.queue_laws.specs.Started.{is_queued, is_begun, has_left, is_left_in, AreStarted}
use Rattle.queue_laws.proofs.Lists.{number_is, changed_on, changed_back, at_number, gone_back, one_more_back, names_differ}
use Rattle.queue_laws.proofs.Rows.{start_fits, keeps_left, active_open}
use Rattle.queue_laws.proofs.Owners.{same_number, is_same, states_left, owns_on}
use Rattle.queue_laws.proofs.Steering.{left_owned, owned_left, left_known}
use Rattle.queue_laws.proofs.Starting as started
use Rattle.lot_laws.specs.Lot.{names_left, is_under_way, breaks_off, WasLeft, IsAtWork}

-- ---- states

-- EXECUTING or PAUSED and not ending, by their number
abbrev pub is_working : ControlJobRecord → Bool
is_working s = is_one_of (3 ∷ 4 ∷ []) (states_number s)

-- of one that is
pub record Working (s : ControlJobRecord) : Type 0 where
  pub active : is_active s.state ≡ true
  pub not_ending : is_ending s.ending ≡ false

-- what is so of the two is so of one of them
pub by_working : (P : ControlJobRecord → Type 0) → P (record { state = Executing; ending = No }) → P (record { state = Paused; ending = No }) → (s : ControlJobRecord) → is_working s ≡ true → P s
by_working P executes pauses s e = of s.state s.ending e where
  of : (a : ControlState) (b : Ending) → is_working (record { state = a; ending = b }) ≡ true → P (record { state = a; ending = b })
  of Executing No t = executes
  of Paused No t = pauses
  of _ No t = absurd (true≢false (sym t))
  of Executing ByStop t = absurd (true≢false (sym t))
  of _ ByStop t = absurd (true≢false (sym t))
  of Executing ByAbort t = absurd (true≢false (sym t))
  of _ ByAbort t = absurd (true≢false (sym t))

working : (s : ControlJobRecord) → is_working s ≡ true → Working s
working s e = by_working Working (record { active = refl; not_ending = refl }) (record { active = refl; not_ending = refl }) s e

-- the rows that start at such a one: its creation, 6, 7, 8, 11 and 12
pub starts_working : (finds : ControlWant → Bool) (row : ℕ) (s : ControlJobRecord) → is_working s ≡ true
    → found_starts states_number finds s (row_of control_table row) ≡ true → is_one_of (1 ∷ 6 ∷ 7 ∷ 8 ∷ 11 ∷ 12 ∷ []) row ≡ true
starts_working finds row s e = by_working (λ (x : ControlJobRecord). found_starts states_number finds x (row_of control_table row) ≡ true → is_one_of (1 ∷ 6 ∷ 7 ∷ 8 ∷ 11 ∷ 12 ∷ []) row ≡ true)
    (λ f. start_fits states_number finds (λ w. false) (is_one_of (1 ∷ 6 ∷ 7 ∷ 8 ∷ 11 ∷ 12 ∷ [])) control_table row (record { state = Executing; ending = No }) (λ w g. absurd (true≢false (sym g))) refl f)
    (λ f. start_fits states_number finds (λ w. false) (is_one_of (1 ∷ 6 ∷ 7 ∷ 8 ∷ 11 ∷ 12 ∷ [])) control_table row (record { state = Paused; ending = No }) (λ w g. absurd (true≢false (sym g))) refl f)
    s e

-- it is so behind row 1, 6 or 7
stays_working : (row : ℕ) (s : ControlJobRecord) → is_one_of (1 ∷ 6 ∷ 7 ∷ []) row ≡ true → is_working s ≡ true → is_working (states.control_fired row s) ≡ true
stays_working row s one e = one_of_cases (λ (r : ℕ). is_working (states.control_fired r s) ≡ true) (1 ∷ 6 ∷ 7 ∷ []) row (
  by_working (λ (x : ControlJobRecord). is_working (states.control_fired 1 x) ≡ true) refl refl s e,
  (
    by_working (λ (x : ControlJobRecord). is_working (states.control_fired 6 x) ≡ true) refl refl s e,
    (by_working (λ (x : ControlJobRecord). is_working (states.control_fired 7 x) ≡ true) refl refl s e, tt),
  ),
) one

-- ---- one that is kept

-- ---- a control job of the number

-- there it is, with its states
pub record Found (number : ℕ) (w : Jobs) : Type 0 where
  pub job : ControlJob
  pub at : control.job_numbered number w.control.jobs ≡ Some job
  pub working : is_working job.states ≡ true
  pub active : is_active job.states.state ≡ true
  pub not_ending : is_ending job.states.ending ≡ false

pub found_working : (number : ℕ) (w : Jobs) → is_under_way (control.job_numbered number w.control.jobs) ≡ true → Found number w
found_working number w e = by_job (control.job_numbered number w.control.jobs) refl e where
  by_job : (o : Option ControlJob) → control.job_numbered number w.control.jobs ≡ o → is_under_way o ≡ true → Found number w
  by_job None f g = absurd (true≢false (sym g))
  by_job (Some c) f g = let is = working c.states g in record { job = c; at = f; working = g; active = is.active; not_ending = is.not_ending }

pub working_at : (number : ℕ) (w : Jobs) (c : ControlJob) → control.job_numbered number w.control.jobs ≡ Some c → is_working c.states ≡ true → is_under_way (control.job_numbered number w.control.jobs) ≡ true
working_at number w c e f = subst (λ (o : Option ControlJob). is_under_way o ≡ true) (sym e) f

module _ (number : ℕ) (before w : Jobs) (t : AreTogether w) (s : AreStarted w) (v : IsAtWork number before w) where
  pub found : Found number w
  found = found_working number w v.works

  opened : is_open found.job ≡ true
  opened = ap not (active_open found.job.states.state found.active)

  -- one that isn't it isn't active
  pub passive : (m : ℕ) (d : ControlJob) → control.job_numbered m w.control.jobs ≡ Some d → (m == number) ≡ false → is_active d.states.state ≡ false
  passive m d e other = by_active (is_active d.states.state) refl where
    by_active : (b : Bool) → is_active d.states.state ≡ b → b ≡ false
    by_active false f = refl
    by_active true f = absurd (true≢false (sym (is_same m number (v.alone m d e f)) ∙ other))

  -- a process job that isn't left in it is QUEUED
  pub out_queued : (n : ℕ) (j : ProcessJob) → process.job_numbered n w.process.kept ≡ Some j → is_left_in number j.id w ≡ false → is_queued j.states.state ≡ true
  out_queued n j e out = by_queued (is_queued j.states.state) refl where
    by_queued : (b : Bool) → is_queued j.states.state ≡ b → b ≡ true
    by_queued true f = refl
    by_queued false f = absurd (true≢false (sym (v.started n j e f) ∙ out))

  -- ---- the state of a process job

  pub state-works : (row n : ℕ) (j : ProcessJob) → process.job_numbered n w.process.kept ≡ Some j
      → (is_left_in number j.id w ≡ true → breaks_off (after job_number job_table row j.states.state) ≡ false)
      → (is_queued (after job_number job_table row j.states.state) ≡ false → is_left_in number j.id w ≡ true)
      → IsAtWork number before (record w { process = process.fired n row w.process })
  state-works row n j e whole begun = record {
    works = v.works;
    alone = v.alone;
    auto = λ m k f left. let b = back m k f in auto m k b.0 b.1 b.2 left;
    whole = λ m k f left. let b = back m k f in breaks m k b.0 b.1 b.2 left;
    started = λ m k f q. let b = back m k f in start m k b.0 b.1 b.2 q;
    were = λ m k f left. let b = back m k f in was m k b.0 b.1 b.2 left;
  } where
    Case : ℕ → ProcessJob → ProcessJob → Type 0
    Case m k i = ((m ≡ n) × (k ≡ process.fires_row row i)) ⊎ (((m == n) ≡ false) × (k ≡ i))

    back : (m : ℕ) (k : ProcessJob) → process.job_numbered m (process.fired n row w.process).kept ≡ Some k → (i : ProcessJob) × (process.job_numbered m w.process.kept ≡ Some i) × Case m k i
    back m k f = at_number n (process.fires_row row) m w.process.kept k (λ i. refl) f

    -- the one at the number is that one
    that : (m : ℕ) (i : ProcessJob) → process.job_numbered m w.process.kept ≡ Some i → m ≡ n → i ≡ j
    that m i f same = let one : Some i ≡ Some j = sym f ∙ ap (λ (x : ℕ). process.job_numbered x w.process.kept) same ∙ e in cc

    -- it was left in it
    left_then : (m : ℕ) (k i : ProcessJob) → Case m k i → is_left_in number k.id w ≡ true → is_left_in number i.id w ≡ true
    left_then m k i (inl same) left = subst (λ (x : ProcessJob). is_left_in number x.id w ≡ true) same.1 left
    left_then m k i (inr other) left = subst (λ (x : ProcessJob). is_left_in number x.id w ≡ true) other.1 left

    auto : (m : ℕ) (k i : ProcessJob) → process.job_numbered m w.process.kept ≡ Some i → Case m k i → is_left_in number k.id w ≡ true → k.auto ≡ true
    auto m k i f (inl same) left = ap (λ (x : ProcessJob). x.auto) same.1 ∙ v.auto m i f (left_then m k i (inl same) left)
    auto m k i f (inr other) left = ap (λ (x : ProcessJob). x.auto) other.1 ∙ v.auto m i f (left_then m k i (inr other) left)

    breaks : (m : ℕ) (k i : ProcessJob) → process.job_numbered m w.process.kept ≡ Some i → Case m k i → is_left_in number k.id w ≡ true → breaks_off k.states.state ≡ false
    breaks m k i f (inl same) left =
        let is_k : k ≡ process.fires_row row j = same.1 ∙ ap (process.fires_row row) (that m i f same.0) in
        ap (λ (x : ProcessJob). breaks_off x.states.state) is_k ∙ whole (subst (λ (x : ProcessJob). is_left_in number x.id w ≡ true) is_k left)
    breaks m k i f (inr other) left = ap (λ (x : ProcessJob). breaks_off x.states.state) other.1 ∙ v.whole m i f (left_then m k i (inr other) left)

    start : (m : ℕ) (k i : ProcessJob) → process.job_numbered m w.process.kept ≡ Some i → Case m k i → is_queued k.states.state ≡ false → is_left_in number k.id w ≡ true
    start m k i f (inl same) q =
        let is_k : k ≡ process.fires_row row j = same.1 ∙ ap (process.fires_row row) (that m i f same.0) in
        ap (λ (x : ProcessJob). is_left_in number x.id w) is_k ∙ begun (subst (λ (x : ProcessJob). is_queued x.states.state ≡ false) is_k q)
    start m k i f (inr other) q = ap (λ (x : ProcessJob). is_left_in number x.id w) other.1 ∙ v.started m i f (subst (λ (x : ProcessJob). is_queued x.states.state ≡ false) other.1 q)

    was : (m : ℕ) (k i : ProcessJob) → process.job_numbered m w.process.kept ≡ Some i → Case m k i → is_left_in number k.id w ≡ true → WasLeft number before m
    was m k i f one left = v.were m i f (left_then m k i one left)

  -- ---- a process job ends

  -- the jobs behind, where one of the name leaves
  abbrev gone_at : ℕ → Option ProcessJob → Jobs
  gone_at n o = record { process = process.forgotten n w.process; control = left_by o w.control }

  -- the control job is there behind
  there : (n : ℕ) (gone : ProcessJob) → control.job_numbered number (gone_at n (Some gone)).control.jobs ≡ Some (leaves gone.id found.job)
  there n gone = changed_on (leaves gone.id) number w.control.jobs found.job (leaves_number gone.id) found.at

  -- what is left in it behind was left before, and another one stays
  pub ended_back : (n : ℕ) (job : List ℕ) → is_left_in number job (ended n w) ≡ true → is_left_in number job w ≡ true
  ended_back n job = by_job (process.job_numbered n w.process.kept) where
    by_job : (o : Option ProcessJob) → is_left_in number job (gone_at n o) ≡ true → is_left_in number job w ≡ true
    by_job None left = left
    by_job (Some gone) left = owned_left number job w found.job found.at (owns_left gone.id job found.job (left_owned number job (gone_at n (Some gone)) (leaves gone.id found.job) (there n gone) left))

  pub ended_on : (n : ℕ) (gone : ProcessJob) (job : List ℕ) → process.job_numbered n w.process.kept ≡ Some gone → bytes_eq job gone.id ≡ false → is_left_in number job w ≡ true → is_left_in number job (ended n w) ≡ true
  ended_on n gone job e other left =
      subst (λ (o : Option ProcessJob). is_left_in number job (gone_at n o) ≡ true) (sym e)
      (owned_left number job (gone_at n (Some gone)) (leaves gone.id found.job) (there n gone) (owns_on gone.id job found.job other (left_owned number job w found.job found.at left)))

  -- the names of the others are left in their order
  pub ended_names : (n : ℕ) (gone : ProcessJob) → process.job_numbered n w.process.kept ≡ Some gone → names_left (control.job_numbered number (ended n w).control.jobs) ≡ others gone.id (names_left (control.job_numbered number w.control.jobs))
  ended_names n gone e =
      ap (λ (o : Option ProcessJob). names_left (control.job_numbered number (gone_at n o).control.jobs)) e ∙ ap names_left (there n gone) ∙ of (owns gone.id found.job) refl
      ∙ sym (ap (λ (o : Option ControlJob). others gone.id (names_left o)) found.at)
    where
      of : (b : Bool) → owns gone.id found.job ≡ b → (cond b (record found.job { left = others gone.id found.job.left }) found.job).left ≡ others gone.id found.job.left
      of true q = refl
      of false q = sym (without_none itself gone.id found.job.left (sym (ap (λ (b : Bool). b && is_in gone.id found.job.left) opened) ∙ q))

  pub ended-works : (n : ℕ) → IsAtWork number before (ended n w)
  ended-works n = by_job (process.job_numbered n w.process.kept) refl where
    was_kept : (m : ℕ) (k : ProcessJob) → process.job_numbered m (process.forgotten n w.process).kept ≡ Some k → process.job_numbered m w.process.kept ≡ Some k
    was_kept m k f = (gone_back n m 0 w.process.given w.process.kept k t.process.numbered f).0

    by_job : (o : Option ProcessJob) → process.job_numbered n w.process.kept ≡ o → IsAtWork number before (gone_at n o)
    by_job None e = record {
      works = v.works;
      alone = v.alone;
      auto = λ m k f left. v.auto m k (was_kept m k f) left;
      whole = λ m k f left. v.whole m k (was_kept m k f) left;
      started = λ m k f q. v.started m k (was_kept m k f) q;
      were = λ m k f left. v.were m k (was_kept m k f) left;
    }
    by_job (Some gone) e = record {
      works = working_at number (gone_at n (Some gone)) (leaves gone.id found.job) (there n gone) (ap is_working (states_left gone.id found.job) ∙ found.working);
      alone = λ m d f a.
          let b = changed_back (leaves gone.id) m w.control.jobs d (leaves_number gone.id) f in
          let same = ap (λ (x : ControlJob). x.states) b.2 ∙ states_left gone.id b.0 in
          v.alone m b.0 b.1 (ap (λ (x : ControlJobRecord). is_active x.state) (sym same) ∙ a);
      auto = λ m k f left. v.auto m k (was_kept m k f) (was_left k.id left);
      whole = λ m k f left. v.whole m k (was_kept m k f) (was_left k.id left);
      started = λ m k f q.
          let b = gone_back n m 0 w.process.given w.process.kept k t.process.numbered f in
          let other = names_differ m n w.process.kept k gone t.process.apart b.0 e b.1 in
          owned_left number k.id (gone_at n (Some gone)) (leaves gone.id found.job) (there n gone) (owns_on gone.id k.id found.job other (left_owned number k.id w found.job found.at (v.started m k b.0 q)));
      were = λ m k f left. v.were m k (was_kept m k f) (was_left k.id left);
    } where
      was_left : (job : List ℕ) → is_left_in number job (gone_at n (Some gone)) ≡ true → is_left_in number job w ≡ true
      was_left job left = owned_left number job w found.job found.at (owns_left gone.id job found.job (left_owned number job (gone_at n (Some gone)) (leaves gone.id found.job) (there n gone) left))

  -- ---- a process job is created

  -- what is left in it is kept
  pub left_in_kept : (job : List ℕ) → is_left_in number job w ≡ true → is_known job w.process.kept ≡ true
  left_in_kept job left = left_known w number found.job job t found.at (left_owned number job w found.job found.at left)

  pub name_left_kept : (name : List ℕ) → is_in name (names_left (control.job_numbered number w.control.jobs)) ≡ true → is_known name w.process.kept ≡ true
  name_left_kept name i =
      left_known w number found.job name t found.at (ap (λ (b : Bool). b && is_in name found.job.left) opened ∙ subst (λ (o : Option ControlJob). is_in name (names_left o) ≡ true) found.at i)

  pub created-works : (spec : JobSpec) → process_fault spec w.process ≡ None → IsAtWork number before (with_process spec w)
  created-works spec e = record {
    works = v.works;
    alone = v.alone;
    auto = λ m k f left. v.auto m k (was_kept m k f left) left;
    whole = λ m k f left. v.whole m k (was_kept m k f left) left;
    started = λ m k f q. by_started m k (back m k f) q;
    were = λ m k f left. v.were m k (was_kept m k f left) left;
  } where
    new : ProcessJob
    new = process.created (w.process.given + 1) spec

    Case : ℕ → ProcessJob → Type 0
    Case m k = (process.job_numbered m w.process.kept ≡ Some k) ⊎ (k ≡ new)

    back : (m : ℕ) (k : ProcessJob) → process.job_numbered m (with_process spec w).process.kept ≡ Some k → Case m k
    back m k f = one_more_back new m w.process.kept k f

    not_left : (k : ProcessJob) → k ≡ new → is_left_in number k.id w ≡ true → ⊥
    not_left k same left = true≢false (sym (left_in_kept spec.id (subst (λ (x : ProcessJob). is_left_in number x.id w ≡ true) same left)) ∙ (is_free spec w.process e).unknown)

    was_kept : (m : ℕ) (k : ProcessJob) → process.job_numbered m (with_process spec w).process.kept ≡ Some k → is_left_in number k.id w ≡ true → process.job_numbered m w.process.kept ≡ Some k
    was_kept m k f left = of (back m k f) where
      of : Case m k → process.job_numbered m w.process.kept ≡ Some k
      of (inl was) = was
      of (inr same) = absurd (not_left k same left)

    by_started : (m : ℕ) (k : ProcessJob) → Case m k → is_queued k.states.state ≡ false → is_left_in number k.id w ≡ true
    by_started m k (inl f) q = v.started m k f q
    by_started m k (inr same) q = absurd (true≢false (sym (ap (λ (x : ProcessJob). is_queued x.states.state) same) ∙ q))

  -- ---- control jobs change

  -- the same process jobs are left in it
  abbrev pub AreSameLeft : JobStore → Type 0
  AreSameLeft c = (job : List ℕ) → is_left_in number job (record w { control = c }) ≡ is_left_in number job w

  -- where that is so, it is EXECUTING or PAUSED and isn't ending, and no other one is active
  pub control-works : (c : JobStore) → is_under_way (control.job_numbered number c.jobs) ≡ true
      → ((m : ℕ) (d : ControlJob) → control.job_numbered m c.jobs ≡ Some d → is_active d.states.state ≡ true → m ≡ number) → AreSameLeft c → IsAtWork number before (record w { control = c })
  control-works c works alone same = record {
    works = works;
    alone = alone;
    auto = λ n j kept left. v.auto n j kept (sym (same j.id) ∙ left);
    whole = λ n j kept left. v.whole n j kept (sym (same j.id) ∙ left);
    started = λ n j kept q. same j.id ∙ v.started n j kept q;
    were = λ n j kept left. v.were n j kept (sym (same j.id) ∙ left);
  }

  -- behind a row
  abbrev pub row_behind : ℕ → ℕ → JobStore
  row_behind row m = control.fired_at m row w.control

  -- a row of another one leaves it
  pub other_there : (row m : ℕ) → (m == number) ≡ false → control.job_numbered number (row_behind row m).jobs ≡ Some found.job
  other_there row m other = changed_on (fires_at m row) number w.control.jobs found.job (fires_number m row) found.at ∙ ap (λ (c : ControlJob). Some c) (self (found.job.number == m) refl) where
    self : (b : Bool) → (found.job.number == m) ≡ b → cond b (fires_row row found.job) found.job ≡ found.job
    self false q = refl
    self true q = absurd (true≢false (sym (is_same m number (sym (same_number found.job.number m q) ∙ number_is number w.control.jobs found.job found.at)) ∙ other))

  pub other_left : (row m : ℕ) → (m == number) ≡ false → AreSameLeft (row_behind row m)
  other_left row m other job = ap (has_left job) (other_there row m other ∙ sym found.at)

  -- a row of another one, that isn't active behind it
  pub other-works : (row m : ℕ) (d : ControlJob) → control.job_numbered m w.control.jobs ≡ Some d → (m == number) ≡ false → is_active (fires_row row d).states.state ≡ false → IsAtWork number before (control_fired row m w)
  other-works row m d e other still = control-works (row_behind row m) (working_at number (control_fired row m w) found.job (other_there row m other) found.working) alone (other_left row m other) where
    by_other : (i : ℕ) (c : ControlJob) → control.job_numbered i w.control.jobs ≡ Some c → (b : Bool) → (c.number == m) ≡ b → is_active (cond b (fires_row row c) c).states.state ≡ true → i ≡ number
    by_other i c f false q a = v.alone i c f a
    by_other i c f true q a =
        let same : i ≡ m = sym (number_is i w.control.jobs c f) ∙ same_number c.number m q in
        let one : Some c ≡ Some d = sym f ∙ ap (λ (x : ℕ). control.job_numbered x w.control.jobs) same ∙ e in
        let that : c ≡ d = cc in
        absurd (true≢false (sym a ∙ ap (λ (x : ControlJob). is_active (fires_row row x).states.state) that ∙ still))

    alone : (i : ℕ) (x : ControlJob) → control.job_numbered i (row_behind row m).jobs ≡ Some x → is_active x.states.state ≡ true → i ≡ number
    alone i x f a = let b = changed_back (fires_at m row) i w.control.jobs x (fires_number m row) f in by_other i b.0 b.1 (b.0.number == m) refl (subst (λ (y : ControlJob). is_active y.states.state ≡ true) b.2 a)

  -- a row of its own
  pub own_there : (row : ℕ) → control.job_numbered number (row_behind row number).jobs ≡ Some (fires_row row found.job)
  own_there row =
      changed_on (fires_at number row) number w.control.jobs found.job (fires_number number row) found.at
      ∙ ap (λ (b : Bool). Some (cond b (fires_row row found.job) found.job)) (is_same found.job.number number (number_is number w.control.jobs found.job found.at))

  -- no row changes which names are left, and their order
  pub row_names : (row m : ℕ) → names_left (control.job_numbered number (row_behind row m).jobs) ≡ names_left (control.job_numbered number w.control.jobs)
  row_names row m = of (m == number) refl where
    own : (b : Bool) → (row == 9) ≡ b → cond (b && states.control_starts row found.job.states) [] found.job.left ≡ found.job.left
    own false q = refl
    own true q =
        ap (λ (b : Bool). cond b [] found.job.left)
        (ap (λ (r : ℕ). states.control_starts r found.job.states) (same_number row 9 q) ∙ keeps_left found.job.states (by_working (λ (x : ControlJobRecord). is_begun x.state ≡ true) refl refl found.job.states found.working))

    of : (b : Bool) → (m == number) ≡ b → names_left (control.job_numbered number (row_behind row m).jobs) ≡ names_left (control.job_numbered number w.control.jobs)
    of false q = ap names_left (other_there row m q ∙ sym found.at)
    of true q =
        ap (λ (k : ℕ). names_left (control.job_numbered number (row_behind row k).jobs)) (same_number m number q) ∙ ap names_left (own_there row) ∙ own (row == 9) refl ∙ sym (ap names_left found.at)

  -- row 1, 6 or 7
  module _ (row : ℕ) (one : is_one_of (1 ∷ 6 ∷ 7 ∷ []) row ≡ true) where
    own_working : is_working (fires_row row found.job).states ≡ true
    own_working = stays_working row found.job.states one found.working

    pub own_left : AreSameLeft (row_behind row number)
    own_left job = ap (has_left job) (own_there row) ∙ same_owned ∙ sym (ap (has_left job) found.at) where
      same_names : left_behind row found.job ≡ found.job.left
      same_names = one_of_cases (λ (r : ℕ). left_behind r found.job ≡ found.job.left) (1 ∷ 6 ∷ 7 ∷ []) row (refl, (refl, (refl, tt))) one

      same_open : is_open (fires_row row found.job) ≡ is_open found.job
      same_open = ap not (active_open (fires_row row found.job).states.state (working (fires_row row found.job).states own_working).active) ∙ sym opened

      same_owned : owns job (fires_row row found.job) ≡ owns job found.job
      same_owned = ap (λ (b : Bool). b && is_in job (left_behind row found.job)) same_open ∙ ap (λ (names : List (List ℕ)). is_open found.job && is_in job names) same_names

    pub own-works : IsAtWork number before (control_fired row number w)
    own-works = control-works (row_behind row number) (working_at number (control_fired row number w) (fires_row row found.job) (own_there row) own_working) alone own_left where
      by_own : (i : ℕ) (c : ControlJob) → control.job_numbered i w.control.jobs ≡ Some c → (b : Bool) → (c.number == number) ≡ b → is_active (cond b (fires_row row c) c).states.state ≡ true → i ≡ number
      by_own i c f false q a = v.alone i c f a
      by_own i c f true q a = sym (number_is i w.control.jobs c f) ∙ same_number c.number number q

      alone : (i : ℕ) (x : ControlJob) → control.job_numbered i (row_behind row number).jobs ≡ Some x → is_active x.states.state ≡ true → i ≡ number
      alone i x f a = let b = changed_back (fires_at number row) i w.control.jobs x (fires_number number row) f in by_own i b.0 b.1 (b.0.number == number) refl (subst (λ (y : ControlJob). is_active y.states.state ≡ true) b.2 a)

  -- a control job is created
  module _ (name : List ℕ) (named : List (List ℕ)) (auto : Bool) (free : control_fault name named w ≡ None) where
    pub added_there : control.job_numbered number (with_control name named auto w).control.jobs ≡ Some found.job
    added_there = started.open_stays w t s name named auto number found.job free found.at opened

    pub added_same : AreSameLeft (with_control name named auto w).control
    added_same job = ap (has_left job) (added_there ∙ sym found.at)

    pub added_names : names_left (control.job_numbered number (with_control name named auto w).control.jobs) ≡ names_left (control.job_numbered number w.control.jobs)
    added_names = ap names_left (added_there ∙ sym found.at)

    pub added-works : IsAtWork number before (with_control name named auto w)
    added-works = control-works (with_control name named auto w).control (working_at number (with_control name named auto w) found.job added_there found.working) alone added_same where
      by_case : (i : ℕ) (c : ControlJob) → (control.job_numbered i w.control.jobs ≡ Some c) ⊎ (c ≡ new_job (w.control.given + 1) name named auto) → is_active c.states.state ≡ true → i ≡ number
      by_case i c (inl f) a = v.alone i c f a
      by_case i c (inr new) a = absurd (true≢false (sym a ∙ ap (λ (x : ControlJob). is_active x.states.state) new))

      alone : (i : ℕ) (c : ControlJob) → control.job_numbered i (with_control name named auto w).control.jobs ≡ Some c → is_active c.states.state ≡ true → i ≡ number
      alone i c f a = by_case i c (started.created_back w t s name named auto i c f) a
