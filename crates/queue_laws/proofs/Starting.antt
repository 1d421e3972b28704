-- What holds of process jobs that were started is kept by each row that starts, and as jobs are created.
use Rattle.std.proofs.Common.{◌≡◌, ℕ, ◌+◌, ◌==◌, Bool, true, false, true≢false, cond, not, ◌&&◌, List, [], ◌∷◌, Option, Some, None, refl, sym, ap, ◌∙◌, subst, ◌⊎◌, inl, inr}
use Rattle.gem_tables.specs.Table.{row_of, after, is_among}
use Rattle.tool_tasks.specs.declared.recipes.Recipe.{Recipe}
use Rattle.process_job.specs.Tables.{job_number, job_table}
use Rattle.process_job.specs.Jobs as process
use Rattle.process_job.specs.declared.record.JobState.TheVariants as process_state
use Rattle.process_job.specs.declared.job.ProcessJob.{ProcessJob}
use Rattle.process_job.specs.declared.job.JobSpec.{JobSpec}
use Rattle.control_job.specs.Tables.{state_number, states_number, executing}
use Rattle.control_job.specs.Record.{control_fired as states_fired}
use Rattle.control_job.specs.Jobs as control
use Rattle.control_job.specs.Jobs.{owns, is_open, fires_row, fires_at, leaves, new_job}
use Rattle.control_job.specs.Creating.{replaced_by, kept_without}
use Rattle.control_job.specs.declared.job.ControlJob.{ControlJob}
use Rattle.records.proofs.Truth.{and_true}
use Rattle.control_job.proofs.Keeping.{leaves_number, fires_number}
use Rattle.tool_jobs.specs.declared.sight.Sight.{Sight}
use Rattle.tool_jobs.specs.Jobs.{Jobs, no_jobs, owner}
use Rattle.tool_jobs.specs.Wants.{is_ending, is_first, is_first_left, is_none_left}
use Rattle.tool_jobs.specs.Rows.{left_by, ended, found_ends, process_starts, process_fired, control_starts, control_fired}
use Rattle.tool_jobs.specs.Together.{AreTogether}
use Rattle.tool_jobs.specs.Creating.{with_process, with_control, control_fault}
use Rattle.tool_jobs.proofs.Ending.{fired_ends, fired_stays}
use Rattle.queue_laws.specs.Started.{is_queued, is_begun, IsLeftInBegun, AreStarted}
use Rattle.queue_laws.proofs.Lists.{find_meets, number_is, changed_on, changed_back, without_on, without_back, more_on, more_back, at_number, gone_back, one_more_back, names_differ}
use Rattle.queue_laws.proofs.Rows.{stays_queued, begun_active, active_open, ends_executing, stays_ending}
use Rattle.queue_laws.proofs.Owners.{same_number, owner_numbered, three_begun, ends_told, ends_so, states_left, owns_on, begun_keeps, none_owned, replaced_closed}

pub none-started : (recipes : List Recipe) → AreStarted (no_jobs recipes)
none-started recipes = record {
  started = λ n j e. absurd (cc);
  ending = λ n c e. absurd (cc);
}

module _ (w : Jobs) (t : AreTogether w) (s : AreStarted w) where
  -- ---- a row of a process job

  -- the first left in a control job that executes is left in one that is begun
  first_begun : (job : List ℕ) → is_first_left job (owner job w) ≡ true → IsLeftInBegun job w
  first_begun job e = by_owner (owner job w) refl e where
    by_owner : (o : Option ControlJob) → owner job w ≡ o → is_first_left job o ≡ true → IsLeftInBegun job w
    by_owner None f g = absurd (true≢false (sym g))
    by_owner (Some c) f g =
        let outer = and_true ((state_number c.states.state == 3) && not (is_ending c.states.ending)) (is_first job c.left) g in
        let inner = and_true (state_number c.states.state == 3) (not (is_ending c.states.ending)) outer.0 in
        (c.number, c, owner_numbered job w c t f, find_meets (owns job) w.control.jobs c f, three_begun c.states.state inner.0)

  -- row 2 starts for such a one
  two_begun : (j : ProcessJob) (sight : Sight) → process_starts 2 (Some j) sight w ≡ true → IsLeftInBegun j.id w
  two_begun j sight e =
      let outer = and_true (is_among job_number (process_state.Queued ∷ []) j.states.state) (is_first_left j.id (owner j.id w) && sight.here) e in
      first_begun j.id (and_true (is_first_left j.id (owner j.id w)) sight.here outer.1).0

  state-started : (row n : ℕ) (sight : Sight) → process_starts row (process.job_numbered n w.process.kept) sight w ≡ true → AreStarted (record w { process = process.fired n row w.process })
  state-started row n sight e = record {
    started = λ m k found q. let b = at_number n (process.fires_row row) m w.process.kept k (λ j. refl) found in by_case m k b.0 b.1 b.2 q;
    ending = s.ending;
  } where
    two : (j : ProcessJob) → (row == 2) ≡ true → process.job_numbered n w.process.kept ≡ Some j → IsLeftInBegun j.id w
    two j r f =
        two_begun j sight
        (subst (λ (i : ℕ). process_starts i (Some j) sight w ≡ true) (same_number row 2 r)
        (subst (λ (o : Option ProcessJob). process_starts row o sight w ≡ true) f e))

    itself : (j : ProcessJob) → process.job_numbered n w.process.kept ≡ Some j → (a b : Bool) → is_queued j.states.state ≡ a → (row == 2) ≡ b
        → is_queued (after job_number job_table row j.states.state) ≡ false → IsLeftInBegun j.id w
    itself j f false b p r q = s.started n j f p
    itself j f true true p r q = two j r f
    itself j f true false p r q = absurd (true≢false (sym (stays_queued row j.states.state r p) ∙ q))

    by_case : (m : ℕ) (k j : ProcessJob) → process.job_numbered m w.process.kept ≡ Some j → ((m ≡ n) × (k ≡ process.fires_row row j)) ⊎ (((m == n) ≡ false) × (k ≡ j)) → is_queued k.states.state ≡ false → IsLeftInBegun k.id w
    by_case m k j f (inl same) q =
        let at : process.job_numbered n w.process.kept ≡ Some j = subst (λ (i : ℕ). process.job_numbered i w.process.kept ≡ Some j) same.0 f in
        let turned : is_queued (after job_number job_table row j.states.state) ≡ false = subst (λ (x : ProcessJob). is_queued x.states.state ≡ false) same.1 q in
        subst (λ (x : ProcessJob). IsLeftInBegun x.id w) (sym same.1) (itself j at (is_queued j.states.state) (row == 2) refl refl turned)
    by_case m k j f (inr other) q =
        subst (λ (x : ProcessJob). IsLeftInBegun x.id w) (sym other.1) (s.started m j f (subst (λ (x : ProcessJob). is_queued x.states.state ≡ false) other.1 q))

  pub ended-started : (n : ℕ) → AreStarted (ended n w)
  ended-started n = by_job (process.job_numbered n w.process.kept) refl where
    by_job : (o : Option ProcessJob) → process.job_numbered n w.process.kept ≡ o → AreStarted (record { process = process.forgotten n w.process; control = left_by o w.control })
    by_job None f = record {
      started = λ m k found q. s.started m k (gone_back n m 0 w.process.given w.process.kept k t.process.numbered found).0 q;
      ending = s.ending;
    }
    by_job (Some gone) f = record {
      started = λ m k found q.
          let b = gone_back n m 0 w.process.given w.process.kept k t.process.numbered found in
          let was = s.started m k b.0 q in
          let c = was.1 in
          let other = names_differ m n w.process.kept k gone t.process.apart b.0 f b.1 in
          (was.0, leaves gone.id c, changed_on (leaves gone.id) was.0 w.control.jobs c (leaves_number gone.id) was.2, owns_on gone.id k.id c other was.3, ap (λ x. is_begun x.state) (states_left gone.id c) ∙ was.4);
      ending = λ i d found e.
          let b = changed_back (leaves gone.id) i w.control.jobs d (leaves_number gone.id) found in
          let states = ap (λ (x : ControlJob). x.states) b.2 ∙ states_left gone.id b.0 in
          ap (λ x. state_number x.state) states ∙ s.ending i b.0 b.1 (ap (λ x. is_ending x.ending) (sym states) ∙ e);
    }

  pub process-started : (row n : ℕ) (sight : Sight) → process_starts row (process.job_numbered n w.process.kept) sight w ≡ true → AreStarted (process_fired row n w)
  process-started row n sight e = by_test (found_ends (row_of job_table row)) refl where
    by_test : (b : Bool) → found_ends (row_of job_table row) ≡ b → AreStarted (process_fired row n w)
    by_test true f = subst AreStarted (fired_ends n row w f) (ended-started n)
    by_test false f = subst AreStarted (fired_stays n row (process.fired n row w.process) w f refl) (state-started row n sight e)

  -- ---- a row of a control job

  -- row 8 starts where none is left
  eight : (here : Bool) (c : ControlJob) → control_starts 8 (Some c) here w ≡ true → is_none_left c.left ≡ true
  eight here c e = (and_true (is_among states_number (executing) c.states) (is_none_left c.left) e).1

  pub control-started : (row n : ℕ) (here : Bool) → control_starts row (control.job_numbered n w.control.jobs) here w ≡ true → AreStarted (control_fired row n w)
  control-started row n here e = record {
    started = λ m k found q.
        let was = s.started m k found q in
        let c = was.1 in
        let kept = keeps was.0 c k.id was.2 was.3 was.4 (c.number == n) refl in
        (was.0, fires_at n row c, changed_on (fires_at n row) was.0 w.control.jobs c (fires_number n row) was.2, kept.0, kept.1);
    ending = λ i d found f.
        let b = changed_back (fires_at n row) i w.control.jobs d (fires_number n row) found in
        subst (λ (x : ControlJob). state_number x.states.state ≡ 3) (sym b.2) (ends i b.0 b.1 (subst (λ (x : ControlJob). is_ending x.states.ending ≡ true) b.2 f));
  } where
    keeps : (i : ℕ) (c : ControlJob) (job : List ℕ) → control.job_numbered i w.control.jobs ≡ Some c → owns job c ≡ true → is_begun c.states.state ≡ true → (b : Bool) → (c.number == n) ≡ b
        → (owns job (cond b (fires_row row c) c) ≡ true) × (is_begun (cond b (fires_row row c) c).states.state ≡ true)
    keeps i c job f o g false p = (o, g)
    keeps i c job f o g true p = by_eight (row == 8) refl where
      at : control.job_numbered n w.control.jobs ≡ Some c
      at = subst (λ (m : ℕ). control.job_numbered m w.control.jobs ≡ Some c) (sym (number_is i w.control.jobs c f) ∙ same_number c.number n p) f

      by_eight : (b : Bool) → (row == 8) ≡ b → (owns job (fires_row row c) ≡ true) × (is_begun (fires_row row c).states.state ≡ true)
      by_eight false r = begun_keeps row c job r g o
      by_eight true r =
          absurd (none_owned job c (eight here c (subst (λ (m : ℕ). control_starts m (Some c) here w ≡ true) (same_number row 8 r) (subst (λ (x : Option ControlJob). control_starts row x here w ≡ true) at e))) o)

    ends : (i : ℕ) (c : ControlJob) → control.job_numbered i w.control.jobs ≡ Some c → is_ending (fires_at n row c).states.ending ≡ true → state_number (fires_at n row c).states.state ≡ 3
    ends i c f g = by_test (c.number == n) g where
      was : ends_executing c.states ≡ true
      was = ends_told c.states.state c.states.ending (s.ending i c f)

      by_test : (b : Bool) → is_ending (cond b (fires_row row c) c).states.ending ≡ true → state_number (cond b (fires_row row c) c).states.state ≡ 3
      by_test false h = s.ending i c f h
      by_test true h = ends_so (states_fired row c.states).state (states_fired row c.states).ending (stays_ending row c.states was) h

  -- ---- jobs that are created

  pub created-started : (spec : JobSpec) → AreStarted (with_process spec w)
  created-started spec = record {
    started = λ m k found q. by_case m k (one_more_back (process.created (w.process.given + 1) spec) m w.process.kept k found) q;
    ending = s.ending;
  } where
    by_case : (m : ℕ) (k : ProcessJob) → (process.job_numbered m w.process.kept ≡ Some k) ⊎ (k ≡ process.created (w.process.given + 1) spec) → is_queued k.states.state ≡ false → IsLeftInBegun k.id w
    by_case m k (inl f) q = s.started m k f q
    by_case m k (inr new) q = absurd (true≢false (sym (ap (λ (x : ProcessJob). is_queued x.states.state) new) ∙ q))

  -- one that isn't COMPLETED stays where a control job is created
  pub open_stays : (name : List ℕ) (named : List (List ℕ)) (auto : Bool) (i : ℕ) (c : ControlJob) → control_fault name named w ≡ None → control.job_numbered i w.control.jobs ≡ Some c → is_open c ≡ true
      → control.job_numbered i (with_control name named auto w).control.jobs ≡ Some c
  open_stays name named auto i c e f o = by_number (replaced_by name w.control.jobs) refl where
    apart : (k : ℕ) → replaced_by name w.control.jobs ≡ Some k → (i == k) ≡ false
    apart k r = by_test (i == k) refl where
      by_test : (b : Bool) → (i == k) ≡ b → b ≡ false
      by_test false p = refl
      by_test true p =
          absurd (true≢false (sym o ∙ replaced_closed name named w k c t e r (subst (λ (m : ℕ). control.job_numbered m w.control.jobs ≡ Some c) (same_number i k p) f)))

    by_number : (o2 : Option ℕ) → replaced_by name w.control.jobs ≡ o2 → control.job_numbered i (control.with_created name named auto (kept_without o2 w.control)).jobs ≡ Some c
    by_number None r = more_on (new_job (w.control.given + 1) name named auto) i w.control.jobs c f
    by_number (Some k) r = more_on (new_job (w.control.given + 1) name named auto) i (control.jobs_without k w.control.jobs) c (without_on k i w.control.jobs c (apart k r) f)

  -- and one that is there then was there, or is new
  pub created_back : (name : List ℕ) (named : List (List ℕ)) (auto : Bool) (i : ℕ) (c : ControlJob) → control.job_numbered i (with_control name named auto w).control.jobs ≡ Some c
      → (control.job_numbered i w.control.jobs ≡ Some c) ⊎ (c ≡ new_job (w.control.given + 1) name named auto)
  created_back name named auto i c f = by_number (replaced_by name w.control.jobs) f where
    back : (k : ℕ) → (control.job_numbered i (control.jobs_without k w.control.jobs) ≡ Some c) ⊎ (c ≡ new_job (w.control.given + 1) name named auto)
        → (control.job_numbered i w.control.jobs ≡ Some c) ⊎ (c ≡ new_job (w.control.given + 1) name named auto)
    back k (inl g) = inl (without_back k i w.control.jobs c g)
    back k (inr g) = inr g

    by_number : (o : Option ℕ) → control.job_numbered i (control.with_created name named auto (kept_without o w.control)).jobs ≡ Some c
        → (control.job_numbered i w.control.jobs ≡ Some c) ⊎ (c ≡ new_job (w.control.given + 1) name named auto)
    by_number None g = more_back (new_job (w.control.given + 1) name named auto) i w.control.jobs c g
    by_number (Some k) g = back k (more_back (new_job (w.control.given + 1) name named auto) i (control.jobs_without k w.control.jobs) c g)

  pub added-started : (name : List ℕ) (named : List (List ℕ)) (auto : Bool) → control_fault name named w ≡ None → AreStarted (with_control name named auto w)
  added-started name named auto e = record {
    started = λ m k found q.
        let was = s.started m k found q in
        (was.0, was.1, open_stays name named auto was.0 was.1 e was.2 (opened was.1 was.4), was.3, was.4);
    ending = λ i c found g. by_case i c (created_back name named auto i c found) g;
  } where
    opened : (c : ControlJob) → is_begun c.states.state ≡ true → is_open c ≡ true
    opened c g = ap not (active_open c.states.state (begun_active c.states.state g))

    by_case : (i : ℕ) (c : ControlJob) → (control.job_numbered i w.control.jobs ≡ Some c) ⊎ (c ≡ new_job (w.control.given + 1) name named auto) → is_ending c.states.ending ≡ true → state_number c.states.state ≡ 3
    by_case i c (inl f) g = s.ending i c f g
    by_case i c (inr new) g = absurd (true≢false (sym g ∙ ap (λ (x : ControlJob). is_ending x.states.ending) new))

  pub headed-started : (name : List ℕ) → AreStarted (record w { control = control.headed name w.control })
  headed-started name = record { started = s.started; ending = s.ending }
