-- The jobs are together behind each change.
use Rattle.std.proofs.Common.{◌≡◌, ℕ, ◌+◌, ◌==◌, ◌≤◌, Bool, true, false, true≢false, cond, not, ◌&&◌, ◌||◌, List, [], ◌∷◌, ◌++◌, length, map, filter, Option, Some, None, is_some, bytes_eq, refl, sym, ◌∙◌, subst, arith}
use Rattle.std.specs.List.{list_all}
use Rattle.std.proofs.lemmas.Bool.Decides.{nat_tests}
use Rattle.tool_tasks.specs.declared.recipes.Recipe.{Recipe}
use Rattle.process_job.specs.Jobs as process
use Rattle.process_job.specs.Jobs.{JobBook, is_known, change_numbered, without_numbered}
use Rattle.process_job.specs.Creating.{create_fault as process_fault}
use Rattle.process_job.specs.declared.job.ProcessJob.{ProcessJob}
use Rattle.process_job.specs.declared.job.JobSpec.{JobSpec}
use Rattle.process_job.proofs.Apart.{jobs_none}
use Rattle.control_job.specs.Names.{is_in, others, are_named}
use Rattle.control_job.specs.Record.{is_active}
use Rattle.control_job.specs.Jobs as control
use Rattle.control_job.specs.Jobs.{JobStore, is_open, owns, is_any_active, fires_row, fires_at, left_behind, leaves, jobs_without, new_job, numbers_of}
use Rattle.control_job.specs.Creating.{replaced_by, kept_without, create_fault}
use Rattle.control_job.specs.declared.job.ControlJob.{ControlJob}
use Rattle.control_job.specs.declared.fault.CtlFault.{CtlFault}
use Rattle.tool_jobs.specs.Jobs.{Jobs, no_jobs, owner}
use Rattle.tool_jobs.specs.Rows.{left_by, ended, control_fired}
use Rattle.tool_jobs.specs.Creating.{with_process, with_control, is_any_missing, is_any_owned, control_fault}
use Rattle.tool_jobs.specs.Together.{AreTogether, is_left_kept}
use Rattle.tool_jobs.specs.declared.fault.ControlFault.TheVariants.{NameTaken, NoJobs, NotThere, HasControlJob, NoSpace}
use Rattle.tool_jobs.proofs.Counting.{no_more, no_more_left, one_more, none_more, none_found, one_numbered, all_changed, all_wider, all_left, all_more}
use Rattle.tool_jobs.proofs.Names.{names_left, names_other, names_wider, none_of, all_pass}
use Rattle.tool_jobs.proofs.Process.{jobs_fired as process_jobs_fired, jobs_forgotten as process_jobs_forgotten, jobs_created as process_jobs_created, known_fired, known_left, known_more, none_left}
use Rattle.tool_jobs.proofs.Control.{jobs_fired as control_jobs_fired, jobs_left_by, jobs_headed, jobs_created as control_jobs_created, open_before, owns_fired, owns_left, active_left, active_fired, active_at}

-- there are none
pub together_none : (recipes : List Recipe) → AreTogether (no_jobs recipes)
together_none recipes = record {
  process = jobs_none recipes;
  control = record { named_apart = refl; rising = omega arith; few = omega arith; ordered = refl; once = refl; as_many = refl; were_given = refl };
  kept = refl;
  once = λ job. omega arith;
  one_active = omega arith;
}

-- ---- process jobs

-- names that are known before are known behind a change
wider : (b : JobBook) (w : Jobs) → ((name : List ℕ) → is_known name w.process.kept ≡ true → is_known name b.kept ≡ true) → (c : ControlJob) → is_left_kept w c ≡ true → is_left_kept (record w { process = b }) c ≡ true
wider b w more c e = by_test (is_open c) e where
  by_test : (b1 : Bool) → (not b1 || list_all (λ job. is_known job w.process.kept) c.left) ≡ true → (not b1 || list_all (λ job. is_known job b.kept) c.left) ≡ true
  by_test true f = names_wider (λ job. is_known job w.process.kept) (λ job. is_known job b.kept) c.left more f
  by_test false f = refl

process_changed : (b : JobBook) (w : Jobs) → process.AreJobs b → ((name : List ℕ) → is_known name w.process.kept ≡ true → is_known name b.kept ≡ true) → AreTogether w → AreTogether (record w { process = b })
process_changed b w h more t = record {
  process = h;
  control = t.control;
  kept = all_wider (is_left_kept w) (is_left_kept (record w { process = b })) w.control.jobs (wider b w more) t.kept;
  once = t.once;
  one_active = t.one_active;
}

pub together_fired : (number row : ℕ) (w : Jobs) → AreTogether w → AreTogether (record w { process = process.fired number row w.process })
together_fired number row w t = process_changed (process.fired number row w.process) w (process_jobs_fired number row w.process t.process) (λ name e. known_fired name number row w.process.kept ∙ e) t

pub together_created : (spec : JobSpec) (w : Jobs) → process_fault spec w.process ≡ None → AreTogether w → AreTogether (with_process spec w)
together_created spec w e t = process_changed (process.with_created spec w.process) w (process_jobs_created spec w.process e t.process) (λ name f. known_more name (process.created (w.process.given + 1) spec) w.process.kept f) t

-- what is left is kept where a process job leaves and is forgotten
left_keeps : (number : ℕ) (w : Jobs) (j : ProcessJob) → process.job_numbered number w.process.kept ≡ Some j → (c : ControlJob) → is_left_kept w c ≡ true → is_left_kept (ended number w) (leaves j.id c) ≡ true
left_keeps number w j found c e = by_test (is_open c) (is_in j.id c.left) refl refl e where
  still : (n : List ℕ) → bytes_eq n j.id ≡ false → is_known n w.process.kept ≡ true → is_known n (without_numbered number w.process.kept) ≡ true
  still n other known = known_left n number w.process.kept j found other known

  by_test : (a b : Bool) → is_open c ≡ a → is_in j.id c.left ≡ b → (not a || list_all (λ job. is_known job w.process.kept) c.left) ≡ true → is_left_kept (ended number w) (cond (a && b) (record c { left = others j.id c.left }) c) ≡ true
  by_test false b p q f = rw p refl
  by_test true true p q f = rw p (names_left j.id (λ n. is_known n w.process.kept) (λ n. is_known n (without_numbered number w.process.kept)) c.left still f)
  by_test true false p q f = rw p (names_other j.id (λ n. is_known n w.process.kept) (λ n. is_known n (without_numbered number w.process.kept)) c.left still q f)

pub together_ended : (number : ℕ) (w : Jobs) → AreTogether w → AreTogether (ended number w)
together_ended number w t = by_job (process.job_numbered number w.process.kept) refl where
  by_job : (o : Option ProcessJob) → process.job_numbered number w.process.kept ≡ o → AreTogether (record { process = process.forgotten number w.process; control = left_by o w.control })
  by_job None e = process_changed (process.forgotten number w.process) w (process_jobs_forgotten number w.process t.process) (λ name f. subst (λ (js : List ProcessJob). is_known name js ≡ true) (sym (none_left number w.process.kept e)) f) t
  by_job (Some j) e =
      let active = no_more (λ c. is_active c.states.state) (λ c. is_active c.states.state) (leaves j.id) w.control.jobs (active_left j.id) in
      let one = t.one_active in
      record {
        process = process_jobs_forgotten number w.process t.process;
        control = jobs_left_by j.id w.control t.control;
        kept = all_changed (is_left_kept w) (is_left_kept (ended number w)) (leaves j.id) w.control.jobs (left_keeps number w j e) t.kept;
        once = λ job. let fewer = no_more (owns job) (owns job) (leaves j.id) w.control.jobs (owns_left j.id job) in let was = t.once job in omega (arith, fewer, was);
        one_active = omega (arith, active, one);
      }

-- ---- control jobs

-- what is left behind a row is kept
row_keeps : (n row : ℕ) (w : Jobs) (c : ControlJob) → is_left_kept w c ≡ true → is_left_kept w (fires_at n row c) ≡ true
row_keeps n row w c e = by_test (c.number == n) where
  left : (b : Bool) → list_all (λ job. is_known job w.process.kept) c.left ≡ true → list_all (λ job. is_known job w.process.kept) (cond b [] c.left) ≡ true
  left true f = refl
  left false f = f

  was : (b : Bool) → b ≡ true → (not b || list_all (λ job. is_known job w.process.kept) c.left) ≡ true → list_all (λ job. is_known job w.process.kept) c.left ≡ true
  was true p f = f
  was false p f = absurd (true≢false (sym p))

  by_open : (b : Bool) → is_open (fires_row row c) ≡ b → (not b || list_all (λ job. is_known job w.process.kept) (left_behind row c)) ≡ true
  by_open false p = refl
  by_open true p = left ((row == 9) && control.starts_row row (Some c)) (was (is_open c) (open_before row c p) e)

  by_test : (b : Bool) → is_left_kept w (cond b (fires_row row c) c) ≡ true
  by_test true = by_open (is_open (fires_row row c)) refl
  by_test false = e

pub together_row : (row number : ℕ) (w : Jobs) → (row ≡ 2 → is_any_active w.control.jobs ≡ false) → AreTogether w → AreTogether (control_fired row number w)
together_row row number w none t = record {
  process = t.process;
  control = control_jobs_fired number row w.control t.control;
  kept = all_changed (is_left_kept w) (is_left_kept w) (fires_at number row) w.control.jobs (row_keeps number row w) t.kept;
  once = λ job. let fewer = no_more (owns job) (owns job) (fires_at number row) w.control.jobs (owns_fired job number row) in let was = t.once job in omega (arith, fewer, was);
  one_active = by_test (row == 2) refl;
} where
  by_test : (b : Bool) → (row == 2) ≡ b → length (filter (λ c. is_active c.states.state) (map (fires_at number row) w.control.jobs)) ≤ 1
  by_test true e =
      let two : row ≡ 2 = grind (arith, nat_tests, e) in
      let those = active_at number row w.control.jobs (none two) in
      let one = one_numbered number 0 w.control.given w.control.jobs t.control.rising in
      omega (arith, those, one)
  by_test false e =
      let fewer = no_more (λ c. is_active c.states.state) (λ c. is_active c.states.state) (fires_at number row) w.control.jobs (λ c f. active_fired number row c e f) in
      let one = t.one_active in
      omega (arith, fewer, one)

pub together_headed : (name : List ℕ) (w : Jobs) → AreTogether w → AreTogether (record w { control = control.headed name w.control })
together_headed name w t = record {
  process = t.process;
  control = jobs_headed name w.control t.control;
  kept = t.kept;
  once = t.once;
  one_active = t.one_active;
}

-- ---- a control job that is created

-- it can be: nothing but memory can be wanting, each process job that it names is there, and none belongs to another
pub record CanCome (name : List ℕ) (named : List (List ℕ)) (w : Jobs) : Type 0 where
  pub free : create_fault name named w.control.jobs ≡ None
  pub there : is_any_missing named w ≡ false
  pub unowned : is_any_owned named w ≡ false

pub can_come : (name : List ℕ) (named : List (List ℕ)) (w : Jobs) → control_fault name named w ≡ None → CanCome name named w
can_come name named w e =
    let parts = of (control.is_kept_open name w.control.jobs) (are_named named) (is_any_missing named w) (is_any_owned named w) (create_fault name named w.control.jobs) e in
    record { free = parts.0; there = parts.1.0; unowned = parts.1.1 }
  where
    of : (kept called missing owned : Bool) (o : Option CtlFault) → cond kept (Some NameTaken) (cond (not called) (Some NoJobs) (cond missing (Some NotThere) (cond owned (Some HasControlJob) (cond (is_some o) (Some (NoSpace control.most_jobs)) None)))) ≡ None → (o ≡ None) × ((missing ≡ false) × (owned ≡ false))
    of true called missing owned o f = absurd (cc)
    of false false missing owned o f = absurd (cc)
    of false true true owned o f = absurd (cc)
    of false true false true o f = absurd (cc)
    of false true false false (Some x) f = absurd (cc)
    of false true false false None f = (refl, (refl, refl))

-- what stays of the control jobs beside a new one
stays : (name : List ℕ) (w : Jobs) (o : Option ℕ) → list_all (is_left_kept w) w.control.jobs ≡ true → list_all (is_left_kept w) (kept_without o w.control).jobs ≡ true
stays name w None e = e
stays name w (Some n) e = all_left (is_left_kept w) (λ c. not (c.number == n)) w.control.jobs e

fewer_stay : (test : ControlJob → Bool) (o : Option ℕ) (s : JobStore) → length (filter test (kept_without o s).jobs) ≤ length (filter test s.jobs)
fewer_stay test None s = omega arith
fewer_stay test (Some n) s = no_more_left test (λ c. not (c.number == n)) s.jobs

pub together_added : (name : List ℕ) (named : List (List ℕ)) (auto : Bool) (w : Jobs) → control_fault name named w ≡ None → AreTogether w → AreTogether (with_control name named auto w)
together_added name named auto w e t =
    let can = can_come name named w e in
    let active = none_more (λ c. is_active c.states.state) new others refl in
    let fewer = fewer_stay (λ c. is_active c.states.state) (replaced_by name w.control.jobs) w.control in
    let one = t.one_active in
    record {
      process = t.process;
      control = control_jobs_created name named auto w.control can.free t.control;
      kept = all_more (is_left_kept w) new others (stays name w (replaced_by name w.control.jobs) t.kept) (all_pass (λ job. is_known job w.process.kept) named can.there);
      once = λ job. once job (is_in job named) refl can.unowned (fewer_stay (owns job) (replaced_by name w.control.jobs) w.control) (t.once job);
      one_active = omega (arith, active, fewer, one);
    }
  where
    others : List ControlJob
    others = (kept_without (replaced_by name w.control.jobs) w.control).jobs

    new : ControlJob
    new = new_job ((kept_without (replaced_by name w.control.jobs) w.control).given + 1) name named auto

    once : (job : List ℕ) (b : Bool) → is_in job named ≡ b → is_any_owned named w ≡ false → length (filter (owns job) others) ≤ length (filter (owns job) w.control.jobs) → length (filter (owns job) w.control.jobs) ≤ 1 → length (filter (owns job) (others ++ new ∷ [])) ≤ 1
    once job false p unowned fewer was = let more = none_more (owns job) new others p in omega (arith, more, fewer, was)
    once job true p unowned fewer was =
        let none = none_found (owns job) w.control.jobs (none_of (λ n. is_some (owner n w)) job named unowned p) in
        let more = one_more (owns job) new others in
        omega (arith, more, fewer, none)
