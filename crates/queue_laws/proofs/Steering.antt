-- A control job that executes and that nobody disturbs goes on: by each row that starts and doesn't disturb it, and as jobs are
-- created.
use Rattle.std.proofs.Common.{◌≡◌, ℕ, ◌+◌, ◌==◌, Bool, true, false, true≢false, cond, not, ◌&&◌, ◌||◌, List, [], ◌∷◌, map, find, Option, Some, None, bytes_eq, refl, sym, ap, ◌∙◌, subst, ◌⊎◌, inl, inr}
use Rattle.std.specs.List.{list_any, list_all, AllByRecursion}
use Rattle.gem_tables.specs.Table.{is_one_of, row_of, after}
use Rattle.gem_tables.proofs.Rows.{one_of_cases, both}
use Rattle.process_job.specs.Tables.{JobWant, job_number, job_table}
use Rattle.process_job.specs.Tables as want
use Rattle.process_job.specs.Jobs as process
use Rattle.process_job.specs.Jobs.{is_known}
use Rattle.process_job.specs.Creating.{create_fault as process_fault}
use Rattle.process_job.specs.declared.record.JobState.{JobState}
use Rattle.process_job.specs.declared.record.JobState.TheVariants as process_state
use Rattle.process_job.specs.declared.job.ProcessJob.{ProcessJob}
use Rattle.process_job.specs.declared.job.JobSpec.{JobSpec}
use Rattle.process_job.proofs.Faults.{is_free}
use Rattle.records.proofs.Texts.{same_name}
use Rattle.control_job.specs.Tables.{ControlWant, states_number, state_number}
use Rattle.control_job.specs.Tables as control_want
use Rattle.control_job.specs.Record.{is_active}
use Rattle.control_job.specs.Names.{is_in}
use Rattle.control_job.specs.Jobs as control
use Rattle.control_job.specs.Jobs.{owns, is_open, is_any_active, first_waiting, fires_row, fires_at, leaves, new_job}
use Rattle.control_job.specs.declared.job.ControlJob.{ControlJob}
use Rattle.records.proofs.Truth.{and_true, not_true}
use Rattle.control_job.proofs.Keeping.{leaves_number, fires_number}
use Rattle.tool_jobs.specs.declared.sight.Sight.{Sight}
use Rattle.tool_jobs.specs.Jobs.{Jobs, owner}
use Rattle.tool_jobs.specs.Wants.{process_wants, control_wants, is_ending, is_by_stop, is_by_abort, is_first, is_first_left, is_that, ends_so}
use Rattle.tool_jobs.specs.Rows.{left_by, ended, found_ends, process_starts, process_ready, process_fired, control_starts, control_ready, control_fired}
use Rattle.tool_jobs.specs.Together.{AreTogether, is_left_kept}
use Rattle.tool_jobs.specs.Creating.{with_process, with_control, control_fault}
use Rattle.tool_jobs.proofs.Ending.{fired_ends, fired_stays}
use Rattle.tool_jobs.proofs.Rows.{stays_passive}
use Rattle.tool_jobs.proofs.Control.{owns_left, left_before}
use Rattle.queue_laws.specs.Started.{is_queued, is_begun, has_left, is_left_in, AreStarted}
use Rattle.queue_laws.specs.Steers.{is_executing, has_none_left, goes_on, Steers, AreAutomatic, disturbs_process, disturbs_control, is_completion}
use Rattle.queue_laws.proofs.Lists.{find_meets, all_found, number_is, changed_on, changed_back, one_alone, at_number, gone_back, one_more_back, names_differ}
use Rattle.queue_laws.proofs.Rows.{turns, goes_on_behind, is_refused, starts_going, ready_going, is_refused_waiting, starts_waiting, ready_waiting, ends_executing, starts_executing, is_refused_passive, starts_passive, ready_passive, ready_executing, Starting, starting, begun_active, active_open, Executed, executed, passive_not_ending}
use Rattle.queue_laws.proofs.Owners.{same_number, is_same, owner_numbered, owner_is, not_by_stop, not_by_abort, passive_three, ends_told, states_left, owns_on}
use Rattle.queue_laws.proofs.Starting as started

-- ---- lists

-- one that is found and passes a test is one that does
any_found : (good test : ControlJob → Bool) (cs : List ControlJob) (c : ControlJob) → find test cs ≡ Some c → good c ≡ true → list_any good cs ≡ true
any_found good test [] c e g = absurd (cc)
any_found good test (d ∷ ds) c e g = by_test (test d) (good d) refl e (λ f. any_found good test ds c f g) where
  by_test : (b a : Bool) → good d ≡ a → cond b (Some d) (find test ds) ≡ Some c → (find test ds ≡ Some c → list_any good ds ≡ true) → (a || list_any good ds) ≡ true
  by_test b true t f later = refl
  by_test true false t f later = let same : d ≡ c = cc in absurd (true≢false (sym g ∙ ap good (sym same) ∙ t))
  by_test false false t f later = later f

-- a change of each into itself changes nothing
map_same : (change : ControlJob → ControlJob) (cs : List ControlJob) → ((c : ControlJob) → change c ≡ c) → map change cs ≡ cs
map_same change [] h = refl
map_same change (c ∷ cs) h = rw (h c, map_same change cs h) refl

-- ---- a control job of the number

-- there it is, with its states
pub record Found (number : ℕ) (w : Jobs) : Type 0 where
  pub job : ControlJob
  pub at : control.job_numbered number w.control.jobs ≡ Some job
  pub three : (states_number job.states == 3) ≡ true

pub found_executing : (number : ℕ) (w : Jobs) → is_executing (control.job_numbered number w.control.jobs) ≡ true → Found number w
found_executing number w e = by_job (control.job_numbered number w.control.jobs) refl e where
  by_job : (o : Option ControlJob) → control.job_numbered number w.control.jobs ≡ o → is_executing o ≡ true → Found number w
  by_job None f g = absurd (true≢false (sym g))
  by_job (Some c) f g = record { job = c; at = f; three = g }

pub executing_at : (number : ℕ) (w : Jobs) (c : ControlJob) → control.job_numbered number w.control.jobs ≡ Some c → (states_number c.states == 3) ≡ true → is_executing (control.job_numbered number w.control.jobs) ≡ true
executing_at number w c e f = subst (λ (o : Option ControlJob). is_executing o ≡ true) (sym e) f

-- what is left in it
pub left_owned : (number : ℕ) (job : List ℕ) (w : Jobs) (c : ControlJob) → control.job_numbered number w.control.jobs ≡ Some c → is_left_in number job w ≡ true → owns job c ≡ true
left_owned number job w c e f = subst (λ (o : Option ControlJob). has_left job o ≡ true) e f

pub owned_left : (number : ℕ) (job : List ℕ) (w : Jobs) (c : ControlJob) → control.job_numbered number w.control.jobs ≡ Some c → owns job c ≡ true → is_left_in number job w ≡ true
owned_left number job w c e f = subst (λ (o : Option ControlJob). has_left job o ≡ true) (sym e) f

-- a process job that is left in a control job that isn't COMPLETED is kept
pub left_known : (w : Jobs) (number : ℕ) (c : ControlJob) (job : List ℕ) → AreTogether w → control.job_numbered number w.control.jobs ≡ Some c → owns job c ≡ true → is_known job w.process.kept ≡ true
left_known w number c job t at owned =
    let parts = and_true (is_open c) (is_in job c.left) owned in
    named c.left (second (is_open c) (list_all (λ n. is_known n w.process.kept) c.left) parts.0 (all_found (is_left_kept w) (λ d. d.number == number) w.control.jobs c t.kept at)) parts.1
  where
    second : (a b : Bool) → a ≡ true → (not a || b) ≡ true → b ≡ true
    second true b p q = q
    second false b p q = absurd (true≢false (sym p))

    named : (ns : List (List ℕ)) → list_all (λ n. is_known n w.process.kept) ns ≡ true → is_in job ns ≡ true → is_known job w.process.kept ≡ true
    named [] f g = absurd (true≢false (sym g))
    named (n ∷ ns) f g =
        let both_of = and_true (is_known n w.process.kept) (list_all (λ x. is_known x w.process.kept) ns) f in
        by_test (bytes_eq n job) refl g both_of.0 (named ns both_of.1)
      where
        by_test : (b : Bool) → bytes_eq n job ≡ b → (b || is_in job ns) ≡ true → is_known n w.process.kept ≡ true → (is_in job ns ≡ true → is_known job w.process.kept ≡ true) → is_known job w.process.kept ≡ true
        by_test true p q here later = subst (λ (x : List ℕ). is_known x w.process.kept ≡ true) (same_name n job p) here
        by_test false p q here later = later q

module _ (number : ℕ) (w : Jobs) (t : AreTogether w) (s : AreStarted w) (v : Steers number w) where
  found : Found number w
  found = found_executing number w v.executes

  is : Executed found.job.states
  is = executed found.job.states found.three

  -- one that isn't it isn't active
  passive : (m : ℕ) (d : ControlJob) → control.job_numbered m w.control.jobs ≡ Some d → (m == number) ≡ false → is_active d.states.state ≡ false
  passive m d e other = by_active (is_active d.states.state) refl where
    by_active : (b : Bool) → is_active d.states.state ≡ b → b ≡ false
    by_active false f = refl
    by_active true f = absurd (true≢false (sym (is_same m number (v.alone m d e f)) ∙ other))

  ends : (m : ℕ) (d : ControlJob) → control.job_numbered m w.control.jobs ≡ Some d → ends_executing d.states ≡ true
  ends m d e = ends_told d.states.state d.states.ending (s.ending m d e)

  -- ---- what isn't found

  -- for one that is left in it
  refuses : (j : ProcessJob) (sight : Sight) → j.auto ≡ true → is_left_in number j.id w ≡ true → (x : JobWant) → is_refused x ≡ true → process_wants x j sight w ≡ false
  refuses j sight auto left x r = by_want x r where
    mine : owner j.id w ≡ Some found.job
    mine = owner_is j.id number w found.job t found.at (left_owned number j.id w found.job found.at left)

    by_want : (y : JobWant) → is_refused y ≡ true → process_wants y j sight w ≡ false
    by_want want.start_by_hand q = ap not auto
    by_want want.control_job_ends q = ap (ends_so is_ending) mine ∙ is.not_ending
    by_want want.control_job_stops q = ap (ends_so is_by_stop) mine ∙ not_by_stop found.job.states.ending is.not_ending
    by_want want.control_job_aborts q = ap (ends_so is_by_abort) mine ∙ not_by_abort found.job.states.ending is.not_ending
    by_want _ q = absurd (true≢false (sym q))

  -- for one that isn't
  refuses_waiting : (j : ProcessJob) (sight : Sight) → is_left_in number j.id w ≡ false → (x : JobWant) → is_refused_waiting x ≡ true → process_wants x j sight w ≡ false
  refuses_waiting j sight out x r = by_owner (owner j.id w) refl where
    Result : Option ControlJob → Type 0
    Result o = (is_first_left j.id o ≡ false) × ((ends_so is_ending o ≡ false) × ((ends_so is_by_stop o ≡ false) × (ends_so is_by_abort o ≡ false)))

    first_not : (a b c : Bool) → a ≡ false → ((a && b) && c) ≡ false
    first_not false b c q = refl
    first_not true b c q = absurd (true≢false q)

    other : (d : ControlJob) → owner j.id w ≡ Some d → (d.number == number) ≡ false
    other d f = by_test (d.number == number) refl where
      by_test : (b : Bool) → (d.number == number) ≡ b → b ≡ false
      by_test false q = refl
      by_test true q =
          let at = subst (λ (m : ℕ). control.job_numbered m w.control.jobs ≡ Some d) (same_number d.number number q) (owner_numbered j.id w d t f) in
          absurd (true≢false (sym (owned_left number j.id w d at (find_meets (owns j.id) w.control.jobs d f)) ∙ out))

    result : (o : Option ControlJob) → owner j.id w ≡ o → Result o
    result None f = (refl, (refl, (refl, refl)))
    result (Some d) f =
        let at = owner_numbered j.id w d t f in
        let still = passive d.number d at (other d f) in
        let calm = passive_not_ending d.states still (ends d.number d at) in
        (first_not (state_number d.states.state == 3) (not (is_ending d.states.ending)) (is_first j.id d.left) (passive_three d.states.state still), (calm, (not_by_stop d.states.ending calm, not_by_abort d.states.ending calm)))

    by_owner : (o : Option ControlJob) → owner j.id w ≡ o → process_wants x j sight w ≡ false
    by_owner o f = by_want x r (subst Result (sym f) (result o f)) where
      by_want : (y : JobWant) → is_refused_waiting y ≡ true → Result (owner j.id w) → process_wants y j sight w ≡ false
      by_want want.first_left q p = ap (λ (b : Bool). b && sight.here) p.0
      by_want want.control_job_ends q p = p.1.0
      by_want want.control_job_stops q p = p.1.1.0
      by_want want.control_job_aborts q p = p.1.1.1
      by_want want.nothing_more q p = absurd (true≢false (sym q))
      by_want want.start_by_hand q p = absurd (true≢false (sym q))
      by_want want.automatic_start q p = absurd (true≢false (sym q))
      by_want want.settled q p = absurd (true≢false (sym q))
      by_want want.none_outside q p = absurd (true≢false (sym q))

  -- one that isn't left in it is QUEUED
  out_queued : (n : ℕ) (j : ProcessJob) → process.job_numbered n w.process.kept ≡ Some j → is_left_in number j.id w ≡ false → is_queued j.states.state ≡ true
  out_queued n j e out = by_queued (is_queued j.states.state) refl where
    by_queued : (b : Bool) → is_queued j.states.state ≡ b → b ≡ true
    by_queued true f = refl
    by_queued false f = absurd (true≢false (sym (v.started n j e f) ∙ out))

  -- ---- the state of a process job

  state-steers : (row n : ℕ) (j : ProcessJob) → process.job_numbered n w.process.kept ≡ Some j
      → (is_left_in number j.id w ≡ true → goes_on (after job_number job_table row j.states.state) ≡ true)
      → (is_queued (after job_number job_table row j.states.state) ≡ false → is_left_in number j.id w ≡ true)
      → Steers number (record w { process = process.fired n row w.process })
  state-steers row n j e going begun = record {
    executes = v.executes;
    alone = v.alone;
    auto = λ m k f left. let b = back m k f in auto m k b.0 b.1 b.2 left;
    going = λ m k f left. let b = back m k f in goes m k b.0 b.1 b.2 left;
    started = λ m k f q. let b = back m k f in start m k b.0 b.1 b.2 q;
  } where
    Case : ℕ → ProcessJob → ProcessJob → Type 0
    Case m k i = ((m ≡ n) × (k ≡ process.fires_row row i)) ⊎ (((m == n) ≡ false) × (k ≡ i))

    back : (m : ℕ) (k : ProcessJob) → process.job_numbered m (process.fired n row w.process).kept ≡ Some k → (i : ProcessJob) × (process.job_numbered m w.process.kept ≡ Some i) × Case m k i
    back m k f = at_number n (process.fires_row row) m w.process.kept k (λ i. refl) f

    -- the one at the number is that one
    that : (m : ℕ) (i : ProcessJob) → process.job_numbered m w.process.kept ≡ Some i → m ≡ n → i ≡ j
    that m i f same = let one : Some i ≡ Some j = sym f ∙ ap (λ (x : ℕ). process.job_numbered x w.process.kept) same ∙ e in cc

    auto : (m : ℕ) (k i : ProcessJob) → process.job_numbered m w.process.kept ≡ Some i → Case m k i → is_left_in number k.id w ≡ true → k.auto ≡ true
    auto m k i f (inl same) left = ap (λ (x : ProcessJob). x.auto) same.1 ∙ v.auto m i f (subst (λ (x : ProcessJob). is_left_in number x.id w ≡ true) same.1 left)
    auto m k i f (inr other) left = ap (λ (x : ProcessJob). x.auto) other.1 ∙ v.auto m i f (subst (λ (x : ProcessJob). is_left_in number x.id w ≡ true) other.1 left)

    goes : (m : ℕ) (k i : ProcessJob) → process.job_numbered m w.process.kept ≡ Some i → Case m k i → is_left_in number k.id w ≡ true → goes_on k.states.state ≡ true
    goes m k i f (inl same) left =
        let one = that m i f same.0 in
        let is_k : k ≡ process.fires_row row j = same.1 ∙ ap (process.fires_row row) one in
        ap (λ (x : ProcessJob). goes_on x.states.state) is_k ∙ going (subst (λ (x : ProcessJob). is_left_in number x.id w ≡ true) is_k left)
    goes m k i f (inr other) left = ap (λ (x : ProcessJob). goes_on x.states.state) other.1 ∙ v.going m i f (subst (λ (x : ProcessJob). is_left_in number x.id w ≡ true) other.1 left)

    start : (m : ℕ) (k i : ProcessJob) → process.job_numbered m w.process.kept ≡ Some i → Case m k i → is_queued k.states.state ≡ false → is_left_in number k.id w ≡ true
    start m k i f (inl same) q =
        let one = that m i f same.0 in
        let is_k : k ≡ process.fires_row row j = same.1 ∙ ap (process.fires_row row) one in
        ap (λ (x : ProcessJob). is_left_in number x.id w) is_k ∙ begun (subst (λ (x : ProcessJob). is_queued x.states.state ≡ false) is_k q)
    start m k i f (inr other) q = ap (λ (x : ProcessJob). is_left_in number x.id w) other.1 ∙ v.started m i f (subst (λ (x : ProcessJob). is_queued x.states.state ≡ false) other.1 q)

  -- ---- a process job ends

  pub ended-steers : (n : ℕ) → Steers number (ended n w)
  ended-steers n = by_job (process.job_numbered n w.process.kept) refl where
    by_job : (o : Option ProcessJob) → process.job_numbered n w.process.kept ≡ o → Steers number (record { process = process.forgotten n w.process; control = left_by o w.control })
    by_job None e = record {
      executes = v.executes;
      alone = v.alone;
      auto = λ m k f left. v.auto m k (gone_back n m 0 w.process.given w.process.kept k t.process.numbered f).0 left;
      going = λ m k f left. v.going m k (gone_back n m 0 w.process.given w.process.kept k t.process.numbered f).0 left;
      started = λ m k f q. v.started m k (gone_back n m 0 w.process.given w.process.kept k t.process.numbered f).0 q;
    }
    by_job (Some gone) e = record {
      executes = executing_at number behind (leaves gone.id found.job) at (ap (λ x. states_number x == 3) (states_left gone.id found.job) ∙ found.three);
      alone = λ m d f a.
          let b = changed_back (leaves gone.id) m w.control.jobs d (leaves_number gone.id) f in
          let states = ap (λ (x : ControlJob). x.states) b.2 ∙ states_left gone.id b.0 in
          v.alone m b.0 b.1 (ap (λ x. is_active x.state) (sym states) ∙ a);
      auto = λ m k f left. v.auto m k (gone_back n m 0 w.process.given w.process.kept k t.process.numbered f).0 (was_left k.id left);
      going = λ m k f left. v.going m k (gone_back n m 0 w.process.given w.process.kept k t.process.numbered f).0 (was_left k.id left);
      started = λ m k f q.
          let b = gone_back n m 0 w.process.given w.process.kept k t.process.numbered f in
          let other = names_differ m n w.process.kept k gone t.process.apart b.0 e b.1 in
          let was = left_owned number k.id w found.job found.at (v.started m k b.0 q) in
          owned_left number k.id behind (leaves gone.id found.job) at (owns_on gone.id k.id found.job other was);
    } where
      behind : Jobs
      behind = record { process = process.forgotten n w.process; control = control.left_by gone.id w.control }

      at : control.job_numbered number behind.control.jobs ≡ Some (leaves gone.id found.job)
      at = changed_on (leaves gone.id) number w.control.jobs found.job (leaves_number gone.id) found.at

      was_left : (job : List ℕ) → is_left_in number job behind ≡ true → is_left_in number job w ≡ true
      was_left job left = owned_left number job w found.job found.at (owns_left gone.id job found.job (left_owned number job behind (leaves gone.id found.job) at left))

  -- ---- a row of a process job

  fired-steers : (row n : ℕ) (j : ProcessJob) → process.job_numbered n w.process.kept ≡ Some j
      → (is_left_in number j.id w ≡ true → turns row ≡ false)
      → (is_queued (after job_number job_table row j.states.state) ≡ false → is_left_in number j.id w ≡ true)
      → Steers number (process_fired row n w)
  fired-steers row n j e going begun = by_test (found_ends (row_of job_table row)) refl where
    by_test : (b : Bool) → found_ends (row_of job_table row) ≡ b → Steers number (process_fired row n w)
    by_test true f = subst (Steers number) (fired_ends n row w f) (ended-steers n)
    by_test false f =
        subst (Steers number) (fired_stays n row (process.fired n row w.process) w f refl)
        (state-steers row n j e (λ left. goes_on_behind row j.states.state (going left) (v.going n j e left)) begun)

  -- what is so of rows 1, 2, 4, 6 and 7 of one that is left in it, and of rows 1 and 15 of another one, is so of each row that starts and
  -- doesn't disturb it
  pub process-goes : (P : ℕ → Type 0) (row n : ℕ) (sight : Sight) (j : ProcessJob) → process.job_numbered n w.process.kept ≡ Some j → process_starts row (Some j) sight w ≡ true
      → disturbs_process number j.id row w ≡ false
      → (is_left_in number j.id w ≡ true → AllByRecursion P (1 ∷ 2 ∷ 4 ∷ 6 ∷ 7 ∷ []))
      → (is_left_in number j.id w ≡ false → is_queued j.states.state ≡ true → AllByRecursion P (1 ∷ 15 ∷ [])) → P row
  process-goes P row n sight j e starts calm of_left of_other = by_left (is_left_in number j.id w) refl where
    by_left : (b : Bool) → is_left_in number j.id w ≡ b → P row
    by_left true left =
        let all = of_left left in
        one_of_cases (λ (r : ℕ). (is_one_of (8 ∷ 11 ∷ 12 ∷ 15 ∷ []) r && is_left_in number j.id w) ≡ false → P r) (1 ∷ 2 ∷ 4 ∷ 6 ∷ 7 ∷ 8 ∷ 11 ∷ 12 ∷ 15 ∷ []) row (
          (λ c. all.0),
          (
            (λ c. all.1.0),
            (
              (λ c. all.1.1.0),
              (
                (λ c. all.1.1.1.0),
                (
                  (λ c. all.1.1.1.1.0),
                  ((λ c. absurd (true≢false (sym left ∙ c))), ((λ c. absurd (true≢false (sym left ∙ c))), ((λ c. absurd (true≢false (sym left ∙ c))), ((λ c. absurd (true≢false (sym left ∙ c))), tt)))),
                ),
              ),
            ),
          ),
        )
        (starts_going (λ x. process_wants x j sight w) row j.states.state (refuses j sight (v.auto n j e left) left) (v.going n j e left) starts)
        calm
    by_left false out =
        let queued = out_queued n j e out in
        one_of_cases P (1 ∷ 15 ∷ []) row (of_other out queued) (starts_waiting (λ x. process_wants x j sight w) row j.states.state (refuses_waiting j sight out) queued starts)

  -- by each row that starts and doesn't disturb it
  pub process-steers : (row n : ℕ) (sight : Sight) (j : ProcessJob) → process.job_numbered n w.process.kept ≡ Some j → process_starts row (Some j) sight w ≡ true
      → disturbs_process number j.id row w ≡ false → Steers number (process_fired row n w)
  process-steers row n sight j e starts calm =
      process-goes (λ (r : ℕ). Steers number (process_fired r n w)) row n sight j e starts calm
      (λ left. (
        fired-steers 1 n j e (λ l. refl) (λ q. left),
        (
          fired-steers 2 n j e (λ l. refl) (λ q. left),
          (
            fired-steers 4 n j e (λ l. refl) (λ q. left),
            (
              fired-steers 6 n j e (λ l. refl) (λ q. left),
              (fired-steers 7 n j e (λ l. refl) (λ q. left), tt),
            ),
          ),
        ),
      ))
      (λ out queued. (fired-steers 1 n j e (λ l. refl) (λ q. absurd (true≢false (sym queued ∙ q))), (subst (Steers number) (fired_ends n 15 w refl) (ended-steers n), tt)))

  -- those that are ready by themselves are rows 2, 4, 6 and 7, of process jobs that are left in it
  pub process-ready : (row n : ℕ) (sight : Sight) (j : ProcessJob) → process.job_numbered n w.process.kept ≡ Some j → process_ready (Some j) sight w ≡ Some row
      → (is_left_in number j.id w ≡ true) × (is_one_of (2 ∷ 4 ∷ 6 ∷ 7 ∷ []) row ≡ true)
  process-ready row n sight j e ready = by_left (is_left_in number j.id w) refl where
    by_left : (b : Bool) → is_left_in number j.id w ≡ b → (b ≡ true) × (is_one_of (2 ∷ 4 ∷ 6 ∷ 7 ∷ []) row ≡ true)
    by_left true left = (refl, ready_going (λ x. process_wants x j sight w) row j.states.state (refuses j sight (v.auto n j e left) left) (v.going n j e left) ready)
    by_left false out = absurd (ready_waiting (λ x. process_wants x j sight w) row j.states.state (refuses_waiting j sight out) (out_queued n j e out) ready)

  -- ---- a row of a control job

  -- row 2 doesn't start where it is active
  refuses_passive : (d : ControlJob) (here : Bool) → (x : ControlWant) → is_refused_passive x ≡ true → control_wants x d here w.control ≡ false
  refuses_passive d here x r = by_want x r where
    active : is_any_active w.control.jobs ≡ true
    active = any_found (λ (c : ControlJob). is_active c.states.state) (λ (c : ControlJob). c.number == number) w.control.jobs found.job found.at is.active

    last_not : (a b : Bool) → b ≡ true → (a && not b) ≡ false
    last_not true b q = ap not q
    last_not false b q = refl

    by_want : (y : ControlWant) → is_refused_passive y ≡ true → control_wants y d here w.control ≡ false
    by_want control_want.first_queued_and_none_active q = last_not (is_that d.number (first_waiting w.control)) (is_any_active w.control.jobs) active
    by_want _ q = absurd (true≢false (sym q))

  -- a row of another one leaves it
  other_at : (row m : ℕ) → (m == number) ≡ false → control.job_numbered number (control_fired row m w).control.jobs ≡ Some found.job
  other_at row m other = changed_on (fires_at m row) number w.control.jobs found.job (fires_number m row) found.at ∙ ap (λ (c : ControlJob). Some c) (self (found.job.number == m) refl) where
    self : (b : Bool) → (found.job.number == m) ≡ b → cond b (fires_row row found.job) found.job ≡ found.job
    self false q = refl
    self true q = absurd (true≢false (sym (is_same m number (sym (same_number found.job.number m q) ∙ number_is number w.control.jobs found.job found.at)) ∙ other))

  -- a row of another one, that isn't active behind it
  other-steers : (row m : ℕ) (d : ControlJob) → control.job_numbered m w.control.jobs ≡ Some d → (m == number) ≡ false → is_active (fires_row row d).states.state ≡ false → Steers number (control_fired row m w)
  other-steers row m d e other still = record {
    executes = executing_at number behind found.job at found.three;
    alone = λ i x f a. let b = changed_back (fires_at m row) i w.control.jobs x (fires_number m row) f in by_other i b.0 b.1 (b.0.number == m) refl (subst (λ (y : ControlJob). is_active y.states.state ≡ true) b.2 a);
    auto = λ n k f left. v.auto n k f (was_left k.id left);
    going = λ n k f left. v.going n k f (was_left k.id left);
    started = λ n k f q. owned_left number k.id behind found.job at (left_owned number k.id w found.job found.at (v.started n k f q));
  } where
    behind : Jobs
    behind = control_fired row m w

    at : control.job_numbered number behind.control.jobs ≡ Some found.job
    at = other_at row m other

    was_left : (job : List ℕ) → is_left_in number job behind ≡ true → is_left_in number job w ≡ true
    was_left job left = owned_left number job w found.job found.at (left_owned number job behind found.job at left)

    by_other : (i : ℕ) (c : ControlJob) → control.job_numbered i w.control.jobs ≡ Some c → (b : Bool) → (c.number == m) ≡ b → is_active (cond b (fires_row row c) c).states.state ≡ true → i ≡ number
    by_other i c f false q a = v.alone i c f a
    by_other i c f true q a =
        let same : i ≡ m = sym (number_is i w.control.jobs c f) ∙ same_number c.number m q in
        let one : Some c ≡ Some d = sym f ∙ ap (λ (x : ℕ). control.job_numbered x w.control.jobs) same ∙ e in
        let that : c ≡ d = cc in
        absurd (true≢false (sym a ∙ ap (λ (x : ControlJob). is_active (fires_row row x).states.state) that ∙ still))

  -- row 1 changes nothing
  created_same : (m : ℕ) → control_fired 1 m w ≡ w
  created_same m = ap (λ (cs : List ControlJob). record w { control = record w.control { jobs = cs } }) (map_same (fires_at m 1) w.control.jobs (λ c. same (c.number == m) c)) where
    same : (b : Bool) (c : ControlJob) → cond b (fires_row 1 c) c ≡ c
    same true c = refl
    same false c = refl

  -- what is so before, and behind each row of another one that isn't active then, is so behind each row that starts and doesn't disturb it,
  -- but for its completion
  control-goes : (P : Jobs → Type 0) (row m : ℕ) (here : Bool) (d : ControlJob) → control.job_numbered m w.control.jobs ≡ Some d → control_starts row (Some d) here w ≡ true
      → disturbs_control number m row ≡ false → is_completion number m row ≡ false
      → P w → ((r : ℕ) → (m == number) ≡ false → is_active (fires_row r d).states.state ≡ false → P (control_fired r m w)) → P (control_fired row m w)
  control-goes P row m here d e starts calm on was others = by_number (m == number) refl where
    by_number : (b : Bool) → (m == number) ≡ b → P (control_fired row m w)
    by_number true q =
        let one : Some d ≡ Some found.job = sym e ∙ ap (λ (x : ℕ). control.job_numbered x w.control.jobs) (same_number m number q) ∙ found.at in
        let that : d ≡ found.job = cc in
        let three : (states_number d.states == 3) ≡ true = ap (λ (x : ControlJob). states_number x.states == 3) that ∙ found.three in
        one_of_cases (λ (r : ℕ). ((m == number) && is_one_of (6 ∷ 11 ∷ 12 ∷ []) r) ≡ false → ((m == number) && (r == 8)) ≡ false → P (control_fired r m w)) (1 ∷ 6 ∷ 8 ∷ 11 ∷ 12 ∷ []) row (
          (λ c o. subst P (sym (created_same m)) was),
          (
            (λ c o. absurd (true≢false (sym (both (m == number) true q refl) ∙ c))),
            (
              (λ c o. absurd (true≢false (sym (both (m == number) true q refl) ∙ o))),
              ((λ c o. absurd (true≢false (sym (both (m == number) true q refl) ∙ c))), ((λ c o. absurd (true≢false (sym (both (m == number) true q refl) ∙ c))), tt)),
            ),
          ),
        )
        (starts_executing (λ x. control_wants x d here w.control) row d.states three starts)
        calm
        on
    by_number false q =
        let still = passive m d e q in
        one_of_cases (λ (r : ℕ). P (control_fired r m w)) (1 ∷ 9 ∷ []) row (
          subst P (sym (created_same m)) was,
          (others 9 q (not_true (is_active (fires_row 9 d).states.state) (stays_passive 9 d.states refl (ap not still))), tt),
        )
        (starts_passive (λ x. control_wants x d here w.control) row d.states (refuses_passive d here) still (ends m d e) starts)

  pub control-steers : (row m : ℕ) (here : Bool) (d : ControlJob) → control.job_numbered m w.control.jobs ≡ Some d → control_starts row (Some d) here w ≡ true
      → disturbs_control number m row ≡ false → is_completion number m row ≡ false → Steers number (control_fired row m w)
  control-steers row m here d e starts calm on = control-goes (Steers number) row m here d e starts calm on v (λ r q still. other-steers r m d e q still)

  -- the same process jobs are left in it
  pub control_left : (row m : ℕ) (here : Bool) (d : ControlJob) → control.job_numbered m w.control.jobs ≡ Some d → control_starts row (Some d) here w ≡ true
      → disturbs_control number m row ≡ false → is_completion number m row ≡ false → (job : List ℕ) → is_left_in number job (control_fired row m w) ≡ is_left_in number job w
  control_left row m here d e starts calm on job =
      control-goes (λ (x : Jobs). is_left_in number job x ≡ is_left_in number job w) row m here d e starts calm on refl (λ r q still. ap (has_left job) (other_at r m q ∙ sym found.at))

  -- what is ready by itself is row 8, of itself, exactly where none is left in it
  pub completes : (here : Bool) → control_ready (control.job_numbered number w.control.jobs) here w ≡ cond (has_none_left (control.job_numbered number w.control.jobs)) (Some 8) None
  completes here =
      subst (λ (o : Option ControlJob). control_ready o here w ≡ cond (has_none_left o) (Some 8) None) (sym found.at)
      (ready_executing (λ x. control_wants x found.job here w.control) found.job.states found.three)

  pub control-ready : (row m : ℕ) (here : Bool) (d : ControlJob) → control.job_numbered m w.control.jobs ≡ Some d → control_ready (Some d) here w ≡ Some row → m ≡ number
  control-ready row m here d e ready = by_number (m == number) refl where
    by_number : (b : Bool) → (m == number) ≡ b → m ≡ number
    by_number true q = same_number m number q
    by_number false q = absurd (ready_passive (λ x. control_wants x d here w.control) row d.states (refuses_passive d here) (passive m d e q) (ends m d e) ready)

  -- ---- jobs that are created, and the order of the queue

  -- what is left in it is kept
  pub left_kept : (job : List ℕ) → is_left_in number job w ≡ true → is_known job w.process.kept ≡ true
  left_kept job left = left_known w number found.job job t found.at (left_owned number job w found.job found.at left)

  pub created-steers : (spec : JobSpec) → process_fault spec w.process ≡ None → Steers number (with_process spec w)
  created-steers spec e = record {
    executes = v.executes;
    alone = v.alone;
    auto = λ m k f left. by_auto m k (back m k f) left;
    going = λ m k f left. by_going m k (back m k f) left;
    started = λ m k f q. by_started m k (back m k f) q;
  } where
    new : ProcessJob
    new = process.created (w.process.given + 1) spec

    Case : ℕ → ProcessJob → Type 0
    Case m k = (process.job_numbered m w.process.kept ≡ Some k) ⊎ (k ≡ new)

    back : (m : ℕ) (k : ProcessJob) → process.job_numbered m (with_process spec w).process.kept ≡ Some k → Case m k
    back m k f = one_more_back new m w.process.kept k f

    not_left : (k : ProcessJob) → k ≡ new → is_left_in number k.id w ≡ true → ⊥
    not_left k same left = true≢false (sym (left_kept spec.id (subst (λ (x : ProcessJob). is_left_in number x.id w ≡ true) same left)) ∙ (is_free spec w.process e).unknown)

    by_auto : (m : ℕ) (k : ProcessJob) → Case m k → is_left_in number k.id w ≡ true → k.auto ≡ true
    by_auto m k (inl f) left = v.auto m k f left
    by_auto m k (inr same) left = absurd (not_left k same left)

    by_going : (m : ℕ) (k : ProcessJob) → Case m k → is_left_in number k.id w ≡ true → goes_on k.states.state ≡ true
    by_going m k (inl f) left = v.going m k f left
    by_going m k (inr same) left = absurd (not_left k same left)

    by_started : (m : ℕ) (k : ProcessJob) → Case m k → is_queued k.states.state ≡ false → is_left_in number k.id w ≡ true
    by_started m k (inl f) q = v.started m k f q
    by_started m k (inr same) q = absurd (true≢false (sym (ap (λ (x : ProcessJob). is_queued x.states.state) same) ∙ q))

  pub added-steers : (name : List ℕ) (named : List (List ℕ)) (auto : Bool) → control_fault name named w ≡ None → Steers number (with_control name named auto w)
  added-steers name named auto e = record {
    executes = executing_at number behind found.job at found.three;
    alone = λ i c f a. by_case i c (started.created_back w t s name named auto i c f) a;
    auto = λ n k f left. v.auto n k f (was_left k.id left);
    going = λ n k f left. v.going n k f (was_left k.id left);
    started = λ n k f q. owned_left number k.id behind found.job at (left_owned number k.id w found.job found.at (v.started n k f q));
  } where
    behind : Jobs
    behind = with_control name named auto w

    at : control.job_numbered number behind.control.jobs ≡ Some found.job
    at = started.open_stays w t s name named auto number found.job e found.at (ap not (active_open found.job.states.state is.active))

    was_left : (job : List ℕ) → is_left_in number job behind ≡ true → is_left_in number job w ≡ true
    was_left job left = owned_left number job w found.job found.at (left_owned number job behind found.job at left)

    by_case : (i : ℕ) (c : ControlJob) → (control.job_numbered i w.control.jobs ≡ Some c) ⊎ (c ≡ new_job (w.control.given + 1) name named auto) → is_active c.states.state ≡ true → i ≡ number
    by_case i c (inl f) a = v.alone i c f a
    by_case i c (inr new) a = absurd (true≢false (sym a ∙ ap (λ (x : ControlJob). is_active x.states.state) new))

  pub added_left : (name : List ℕ) (named : List (List ℕ)) (auto : Bool) → control_fault name named w ≡ None → (job : List ℕ) → is_left_in number job (with_control name named auto w) ≡ is_left_in number job w
  added_left name named auto e job = ap (has_left job) (started.open_stays w t s name named auto number found.job e found.at (ap not (active_open found.job.states.state is.active)) ∙ sym found.at)

  pub headed-steers : (name : List ℕ) → Steers number (record w { control = control.headed name w.control })
  headed-steers name = record { executes = v.executes; alone = v.alone; auto = v.auto; going = v.going; started = v.started }

-- ---- it starts

module _ (number : ℕ) (w : Jobs) (t : AreTogether w) (s : AreStarted w) where
  -- where one is active that isn't begun, each process job is QUEUED
  pub all_queued : (c : ControlJob) → control.job_numbered number w.control.jobs ≡ Some c → is_active c.states.state ≡ true → is_begun c.states.state ≡ false
      → (n : ℕ) (j : ProcessJob) → process.job_numbered n w.process.kept ≡ Some j → is_queued j.states.state ≡ true
  all_queued c e active early n j f = by_queued (is_queued j.states.state) refl where
    by_queued : (b : Bool) → is_queued j.states.state ≡ b → b ≡ true
    by_queued true q = refl
    by_queued false q =
        let was = s.started n j f q in
        let same : was.0 ≡ number = one_alone (λ (x : ControlJob). is_active x.states.state) was.0 number w.control.jobs was.1 c t.one_active was.2 e (begun_active was.1.states.state was.4) active in
        let one : Some was.1 ≡ Some c = sym was.2 ∙ ap (λ (x : ℕ). control.job_numbered x w.control.jobs) same ∙ e in
        let that : was.1 ≡ c = cc in
        absurd (true≢false (sym was.4 ∙ ap (λ (x : ControlJob). is_begun x.states.state) that ∙ early))

  -- the row fires at it
  starts_at : (row : ℕ) (c : ControlJob) → control.job_numbered number w.control.jobs ≡ Some c → control.job_numbered number (control_fired row number w).control.jobs ≡ Some (fires_row row c)
  starts_at row c e = changed_on (fires_at number row) number w.control.jobs c (fires_number number row) e ∙ ap (λ (x : ControlJob). Some x) (self (c.number == number) refl) where
    self : (b : Bool) → (c.number == number) ≡ b → cond b (fires_row row c) c ≡ fires_row row c
    self true q = refl
    self false q = absurd (true≢false (sym (is_same c.number number (number_is number w.control.jobs c e)) ∙ q))

  pub begin-steers : (row : ℕ) (here : Bool) (c : ControlJob) → control.job_numbered number w.control.jobs ≡ Some c → control_starts row (Some c) here w ≡ true
      → is_one_of (4 ∷ 5 ∷ []) row ≡ true → AreAutomatic number w → Steers number (control_fired row number w)
  begin-steers row here c e starts r auto = record {
    executes = executing_at number behind (fires_row row c) at (is_same (states_number (fires_row row c).states) 3 is.executing);
    alone = λ i x f a. let b = changed_back (fires_at number row) i w.control.jobs x (fires_number number row) f in by_other i b.0 b.1 (b.0.number == number) refl (subst (λ (y : ControlJob). is_active y.states.state ≡ true) b.2 a);
    auto = λ n j f left. auto n j f (owned_left number j.id w c e (was_owned j.id (left_owned number j.id behind (fires_row row c) at left)));
    going = λ n j f left. queued_goes j.states.state (queued n j f);
    started = λ n j f q. absurd (true≢false (sym (queued n j f) ∙ q));
  } where
    is : Starting row c.states
    is = starting (λ x. control_wants x c here w.control) row c.states r starts

    behind : Jobs
    behind = control_fired row number w

    at : control.job_numbered number behind.control.jobs ≡ Some (fires_row row c)
    at = starts_at row c e

    queued : (n : ℕ) (j : ProcessJob) → process.job_numbered n w.process.kept ≡ Some j → is_queued j.states.state ≡ true
    queued = all_queued c e is.active is.not_begun

    queued_goes : (x : JobState) → is_queued x ≡ true → goes_on x ≡ true
    queued_goes process_state.Queued q = refl
    queued_goes _ q = absurd (true≢false (sym q))

    was_owned : (job : List ℕ) → owns job (fires_row row c) ≡ true → owns job c ≡ true
    was_owned job o =
        let parts = and_true (is_open (fires_row row c)) (is_in job (control.left_behind row c)) o in
        both (is_open c) (is_in job c.left) (ap not is.open_now) (left_before job row c parts.1)

    by_other : (i : ℕ) (x : ControlJob) → control.job_numbered i w.control.jobs ≡ Some x → (b : Bool) → (x.number == number) ≡ b → is_active (cond b (fires_row row x) x).states.state ≡ true → i ≡ number
    by_other i x f true q a = sym (number_is i w.control.jobs x f) ∙ same_number x.number number q
    by_other i x f false q a = one_alone (λ (y : ControlJob). is_active y.states.state) i number w.control.jobs x c t.one_active f e a is.active

  -- as it starts, each process job is QUEUED
  pub started_queued : (row : ℕ) (here : Bool) (c : ControlJob) → control.job_numbered number w.control.jobs ≡ Some c → control_starts row (Some c) here w ≡ true
      → is_one_of (4 ∷ 5 ∷ []) row ≡ true → (n : ℕ) (j : ProcessJob) → process.job_numbered n w.process.kept ≡ Some j → is_queued j.states.state ≡ true
  started_queued row here c e starts r n j f =
      let is = starting (λ x. control_wants x c here w.control) row c.states r starts in
      all_queued c e is.active is.not_begun n j f

  -- and what is left in it then was left before
  pub started_left : (row : ℕ) (here : Bool) (c : ControlJob) → control.job_numbered number w.control.jobs ≡ Some c → control_starts row (Some c) here w ≡ true
      → is_one_of (4 ∷ 5 ∷ []) row ≡ true → (job : List ℕ) → is_left_in number job (control_fired row number w) ≡ true → is_left_in number job w ≡ true
  started_left row here c e starts r job left =
      let parts = and_true (is_open (fires_row row c)) (is_in job (control.left_behind row c)) (left_owned number job (control_fired row number w) (fires_row row c) (starts_at row c e) left) in
      owned_left number job w c e (both (is_open c) (is_in job c.left) (ap not (starting (λ x. control_wants x c here w.control) row c.states r starts).open_now) (left_before job row c parts.1))

  -- and the other way round
  pub left_started : (row : ℕ) (here : Bool) (c : ControlJob) → control.job_numbered number w.control.jobs ≡ Some c → control_starts row (Some c) here w ≡ true
      → is_one_of (4 ∷ 5 ∷ []) row ≡ true → (job : List ℕ) → is_left_in number job w ≡ true → is_left_in number job (control_fired row number w) ≡ true
  left_started row here c e starts r job left =
      let parts = and_true (is_open c) (is_in job c.left) (left_owned number job w c e left) in
      owned_left number job (control_fired row number w) (fires_row row c) (starts_at row c e)
      (both (is_open (fires_row row c)) (is_in job (control.left_behind row c)) (ap not (starting (λ x. control_wants x c here w.control) row c.states r starts).open_then) (one_of_cases (λ (n : ℕ). is_in job (control.left_behind n c) ≡ true) (4 ∷ 5 ∷ []) row (parts.1, (parts.1, tt)) r))
