-- Who owns a process job, and what a row or a process job that leaves does to a control job.
use Rattle.std.proofs.Common.{◌≡◌, ℕ, ◌==◌, nat_lt, Bool, true, false, true≢false, cond, not, ◌&&◌, ◌||◌, List, [], ◌∷◌, length, find, Option, Some, None, option_map, is_some, bytes_eq, refl, sym, ap, ◌∙◌, subst, arith}
use Rattle.std.specs.List.{list_any}
use Rattle.std.proofs.lemmas.Bool.Decides.{nat_tests}
use Rattle.control_job.specs.Names.{is_in, others, are_named}
use Rattle.control_job.specs.Record.{control_starts, control_fired, is_active}
use Rattle.control_job.specs.Tables.{state_number}
use Rattle.control_job.specs.Jobs as control
use Rattle.control_job.specs.Jobs.{owns, is_open, has_name, numbers_of, fires_row, left_behind, leaves}
use Rattle.control_job.specs.Creating.{replaced_by, number_named, first_completed, create_fault}
use Rattle.control_job.specs.declared.record.ControlState.{ControlState}
use Rattle.control_job.specs.declared.record.ControlState.TheVariants.{Queued, Executing, Completed}
use Rattle.control_job.specs.declared.record.Ending.{Ending}
use Rattle.control_job.specs.declared.record.Ending.TheVariants.{No, ByStop, ByAbort}
use Rattle.control_job.specs.declared.job.ControlJob.{ControlJob}
use Rattle.records.proofs.Truth.{and_true, or_false, not_true}
use Rattle.control_job.proofs.Orders.{rising_apart}
use Rattle.tool_jobs.specs.Jobs.{Jobs, owner}
use Rattle.tool_jobs.specs.Wants.{is_ending, is_by_stop, is_by_abort, is_none_left}
use Rattle.tool_jobs.specs.Together.{AreTogether}
use Rattle.tool_jobs.specs.Creating.{control_fault, is_any_missing, is_any_owned}
use Rattle.tool_jobs.specs.declared.fault.ControlFault.TheVariants.{NameTaken, NoJobs, NotThere, HasControlJob, NoSpace}
use Rattle.tool_jobs.proofs.Control.{numbered_found}
use Rattle.tool_jobs.proofs.Counting.{none_found}
use Rattle.queue_laws.specs.Started.{is_begun}
use Rattle.queue_laws.proofs.Lists.{find_meets, one_passes, one_alone, stays_in_others}
use Rattle.queue_laws.proofs.Rows.{begun_active, active_open, stays_begun, keeps_left}
use Rattle.gem_tables.proofs.Rows.{both}

-- ---- truth values

pub same_number : (a b : ℕ) → (a == b) ≡ true → a ≡ b
same_number a b e = grind (arith, nat_tests, e)

pub is_same : (a b : ℕ) → a ≡ b → (a == b) ≡ true
is_same a b e = grind (arith, nat_tests, e)

-- ---- who is found

-- who is found by a name of a process job is found by its number
pub owner_numbered : (job : List ℕ) (w : Jobs) (c : ControlJob) → AreTogether w → owner job w ≡ Some c → control.job_numbered c.number w.control.jobs ≡ Some c
owner_numbered job w c t e =
    numbered_found (owns job) c.number w.control.jobs (rising_apart 0 w.control.given (numbers_of w.control.jobs) t.control.rising) (ap (option_map (λ (d : ControlJob). d.number)) e)
    ∙ e

-- and the other way round
pub owner_is : (job : List ℕ) (n : ℕ) (w : Jobs) (c : ControlJob) → AreTogether w → control.job_numbered n w.control.jobs ≡ Some c → owns job c ≡ true → owner job w ≡ Some c
owner_is job n w c t e o = by_owner (owner job w) refl where
  by_owner : (f : Option ControlJob) → owner job w ≡ f → f ≡ Some c
  by_owner None f =
      let none = none_found (owns job) w.control.jobs (ap is_some f) in
      let some = one_passes (owns job) (λ (d : ControlJob). d.number == n) w.control.jobs c e o in
      absurd (omega (arith, none, some))
  by_owner (Some d) f =
      let at = owner_numbered job w d t f in
      let same : n ≡ d.number = one_alone (owns job) n d.number w.control.jobs c d (t.once job) e at o (find_meets (owns job) w.control.jobs d f) in
      sym at ∙ ap (λ (m : ℕ). control.job_numbered m w.control.jobs) (sym same) ∙ e

-- what isn't ending ends in no way
pub not_by_stop : (e : Ending) → is_ending e ≡ false → is_by_stop e ≡ false
not_by_stop No f = refl
not_by_stop ByStop f = absurd (true≢false f)
not_by_stop ByAbort f = refl

pub not_by_abort : (e : Ending) → is_ending e ≡ false → is_by_abort e ≡ false
not_by_abort No f = refl
not_by_abort ByStop f = refl
not_by_abort ByAbort f = absurd (true≢false f)

-- EXECUTING has its number
pub three_begun : (s : ControlState) → (state_number s == 3) ≡ true → is_begun s ≡ true
three_begun Executing e = refl
three_begun _ e = absurd (true≢false (sym e))

pub passive_three : (s : ControlState) → is_active s ≡ false → (state_number s == 3) ≡ false
passive_three Queued e = refl
passive_three Completed e = refl
passive_three _ e = absurd (true≢false e)

-- ---- how one is ending

pub ends_told : (s : ControlState) (e : Ending) → (is_ending e ≡ true → state_number s ≡ 3) → (not (is_ending e) || (state_number s == 3)) ≡ true
ends_told s e h = by_test (is_ending e) h where
  by_test : (b : Bool) → (b ≡ true → state_number s ≡ 3) → (not b || (state_number s == 3)) ≡ true
  by_test false k = refl
  by_test true k = is_same (state_number s) 3 (k refl)

pub ends_so : (s : ControlState) (e : Ending) → (not (is_ending e) || (state_number s == 3)) ≡ true → is_ending e ≡ true → state_number s ≡ 3
ends_so s e h t = by_test (is_ending e) h t where
  by_test : (b : Bool) → (not b || (state_number s == 3)) ≡ true → b ≡ true → state_number s ≡ 3
  by_test false k f = absurd (true≢false (sym f))
  by_test true k f = same_number (state_number s) 3 k

-- ---- a process job leaves

pub states_left : (gone : List ℕ) (c : ControlJob) → (leaves gone c).states ≡ c.states
states_left gone c = by_test (owns gone c) where
  by_test : (b : Bool) → (cond b (record c { left = others gone c.left }) c).states ≡ c.states
  by_test true = refl
  by_test false = refl

-- another one stays
pub owns_on : (gone job : List ℕ) (c : ControlJob) → bytes_eq job gone ≡ false → owns job c ≡ true → owns job (leaves gone c) ≡ true
owns_on gone job c other e = by_test (owns gone c) where
  by_test : (b : Bool) → owns job (cond b (record c { left = others gone c.left }) c) ≡ true
  by_test false = e
  by_test true =
      let parts = and_true (is_open c) (is_in job c.left) e in
      both (is_open c) (is_in job (others gone c.left)) parts.0 (stays_in_others gone job c.left other parts.1)

-- ---- a row of a control job

-- one that is EXECUTING or PAUSED keeps what is left in it, but by row 8
pub begun_keeps : (row : ℕ) (c : ControlJob) (job : List ℕ) → (row == 8) ≡ false → is_begun c.states.state ≡ true → owns job c ≡ true
    → (owns job (fires_row row c) ≡ true) × (is_begun (fires_row row c).states.state ≡ true)
begun_keeps row c job eight b e =
    let behind = stays_begun row c.states eight b in
    let parts = and_true (is_open c) (is_in job c.left) e in
    let opened : is_open (fires_row row c) ≡ true = ap not (active_open (control_fired row c.states).state (begun_active (control_fired row c.states).state behind)) in
    (both (is_open (fires_row row c)) (is_in job (left_behind row c)) opened (left (row == 9) refl parts.1), behind)
  where
    left : (a : Bool) → (row == 9) ≡ a → is_in job c.left ≡ true → is_in job (cond (a && control_starts row c.states) [] c.left) ≡ true
    left false t f = f
    left true t f =
        let never : control_starts row c.states ≡ false = subst (λ (n : ℕ). control_starts n c.states ≡ false) (sym (same_number row 9 t)) (keeps_left c.states b) in
        subst (λ (a : Bool). is_in job (cond a [] c.left) ≡ true) (sym never) f

-- where none is left it owns none
pub none_owned : (job : List ℕ) (c : ControlJob) → is_none_left c.left ≡ true → owns job c ≡ true → ⊥
none_owned job c n e = of c.left n (and_true (is_open c) (is_in job c.left) e).1 where
  of : (ns : List (List ℕ)) → is_none_left ns ≡ true → is_in job ns ≡ true → ⊥
  of [] f g = true≢false (sym g)
  of (x ∷ xs) f g = true≢false (sym f)

-- ---- one that is replaced

-- no fault: none of the name is kept that isn't COMPLETED
pub name_free : (name : List ℕ) (named : List (List ℕ)) (w : Jobs) → control_fault name named w ≡ None → control.is_kept_open name w.control.jobs ≡ false
name_free name named w e = of (control.is_kept_open name w.control.jobs) e where
  of : (kept : Bool) → cond kept (Some NameTaken) (cond (not (are_named named)) (Some NoJobs) (cond (is_any_missing named w) (Some NotThere) (cond (is_any_owned named w) (Some HasControlJob) (cond (is_some (create_fault name named w.control.jobs)) (Some (NoSpace control.most_jobs)) None)))) ≡ None → kept ≡ false
  of true f = absurd (cc)
  of false f = refl

none_any : (test found : ControlJob → Bool) (cs : List ControlJob) (c : ControlJob) → list_any test cs ≡ false → find found cs ≡ Some c → test c ≡ false
none_any test found [] c h e = absurd (cc)
none_any test found (d ∷ ds) c h e =
    let parts = or_false (test d) (list_any test ds) h in
    by_test (found d) parts.0 e (none_any test found ds c parts.1)
  where
    by_test : (b : Bool) → test d ≡ false → cond b (Some d) (find found ds) ≡ Some c → (find found ds ≡ Some c → test c ≡ false) → test c ≡ false
    by_test true t f later = let same : d ≡ c = cc in subst (λ (x : ControlJob). test x ≡ false) same t
    by_test false t f later = later f

-- one that is replaced is COMPLETED
pub replaced_closed : (name : List ℕ) (named : List (List ℕ)) (w : Jobs) (k : ℕ) (c : ControlJob) → AreTogether w → control_fault name named w ≡ None → replaced_by name w.control.jobs ≡ Some k
    → control.job_numbered k w.control.jobs ≡ Some c → is_open c ≡ false
replaced_closed name named w k c t e r f = by_kept (control.is_kept name w.control.jobs) (nat_lt (length w.control.jobs) control.most_jobs) r where
  found : (test : ControlJob → Bool) → option_map (λ (d : ControlJob). d.number) (find test w.control.jobs) ≡ Some k → find test w.control.jobs ≡ Some c
  found test g = sym (numbered_found test k w.control.jobs (rising_apart 0 w.control.given (numbers_of w.control.jobs) t.control.rising) g) ∙ f

  second : (a b : Bool) → (a && b) ≡ false → a ≡ true → b ≡ false
  second true b p q = p
  second false b p q = absurd (true≢false (sym q))

  by_kept : (a b : Bool) → cond a (number_named name w.control.jobs) (cond b None (first_completed w.control.jobs)) ≡ Some k → is_open c ≡ false
  by_kept true b g =
      let at = found (has_name name) g in
      second (has_name name c) (is_open c) (none_any (λ (j : ControlJob). has_name name j && is_open j) (has_name name) w.control.jobs c (name_free name named w e) at) (find_meets (has_name name) w.control.jobs c at)
  by_kept false true g = absurd (cc)
  by_kept false false g = let at = found (λ (j : ControlJob). not (is_open j)) g in not_true (is_open c) (find_meets (λ (j : ControlJob). not (is_open j)) w.control.jobs c at)
