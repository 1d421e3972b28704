-- The control jobs behind a row, or one that is created, and who owns what.
use Rattle.std.proofs.Common.{◌≡◌, ℕ, suc, ◌+◌, ◌==◌, ◌≤◌, Bool, true, false, true≢false, cond, not, ◌&&◌, List, [], ◌∷◌, length, map, filter, find, Option, Some, None, option_map, refl, sym, ◌∙◌, subst, arith}
use Rattle.std.proofs.lemmas.Bool.Decides.{nat_tests}
use Rattle.gem_tables.specs.Table.{is_one_of}
use Rattle.control_job.specs.Names.{is_in, others}
use Rattle.control_job.specs.Record.{control_starts, control_fired, is_active, is_completed}
use Rattle.control_job.specs.Jobs as control
use Rattle.control_job.specs.Jobs.{JobStore, AreJobs, has_name, is_open, is_waiting, owns, job_numbered, waiting_named, starts_row, fires_row, fires_at, fired_at, left_behind, leaves, left_by, put_last, order_headed, headed, are_apart, new_job, numbers_of, is_any_active}
use Rattle.control_job.specs.Creating.{create_fault, replaced_by, kept_without, created}
use Rattle.control_job.specs.declared.job.ControlJob.{ControlJob}
use Rattle.records.proofs.Truth.{or_false, and_true, not_true}
use Rattle.control_job.proofs.Called.{found_in}
use Rattle.control_job.proofs.Keeping.{jobs_changed, fires_name, fires_number, leaves_name, leaves_number, in_order, jobs_first, jobs_last, jobs_forgotten, jobs_added}
use Rattle.control_job.proofs.Room.{replaced_in, starts_in, room_after, HasRoom}
use Rattle.tool_jobs.proofs.Names.{in_others}
use Rattle.tool_jobs.proofs.Rows.{stays_completed, stays_passive}

-- ---- what they keep

pub jobs_fired : (n row : ℕ) (s : JobStore) → AreJobs s → AreJobs (fired_at n row s)
jobs_fired n row s h = by_test (row == 10) (starts_row row (job_numbered n s.jobs)) refl where
  changed : AreJobs (record s { jobs = map (fires_at n row) s.jobs })
  changed = jobs_changed s (fires_at n row) h (fires_name n row) (fires_number n row)

  by_test : (a b : Bool) → starts_row row (job_numbered n s.jobs) ≡ b → AreJobs (record s { jobs = map (fires_at n row) s.jobs; order = cond (a && b) (put_last n s.order) s.order })
  by_test true true t = jobs_last (record s { jobs = map (fires_at n row) s.jobs }) n changed (in_order s n h (starts_in n row s.jobs t))
  by_test true false t = changed
  by_test false b t = changed

pub jobs_left_by : (job : List ℕ) (s : JobStore) → AreJobs s → AreJobs (left_by job s)
jobs_left_by job s h = jobs_changed s (leaves job) h (leaves_name job) (leaves_number job)

pub jobs_headed : (name : List ℕ) (s : JobStore) → AreJobs s → AreJobs (headed name s)
jobs_headed name s h = by_number (waiting_named name s.jobs) refl where
  by_number : (o : Option ℕ) → waiting_named name s.jobs ≡ o → AreJobs (record s { order = order_headed o s.order })
  by_number None e = h
  by_number (Some n) e = jobs_first s n h (in_order s n h (found_in (λ j. has_name name j && is_waiting j) s.jobs n e))

pub jobs_created : (name : List ℕ) (named : List (List ℕ)) (auto : Bool) (s : JobStore) → create_fault name named s.jobs ≡ None → AreJobs s → AreJobs (created name named auto s)
jobs_created name named auto s e h = by_number (replaced_by name s.jobs) refl (room_after name named s h e) where
  by_number : (o : Option ℕ) → replaced_by name s.jobs ≡ o → HasRoom name s o → AreJobs (control.with_created name named auto (kept_without o s))
  by_number None f room = jobs_added s (new_job (s.given + 1) name named auto) h (omega arith) room.0 room.1
  by_number (Some n) f room = jobs_added (control.forgotten n s) (new_job (s.given + 1) name named auto) (jobs_forgotten s n h (replaced_in name s.jobs n f)) (omega arith) room.0 room.1

-- ---- what a row leaves

-- a control job that isn't COMPLETED behind a row wasn't
pub open_before : (row : ℕ) (c : ControlJob) → is_open (fires_row row c) ≡ true → is_open c ≡ true
open_before row c e = by_test (is_completed c.states.state) refl where
  by_test : (b : Bool) → is_completed c.states.state ≡ b → not b ≡ true
  by_test false t = refl
  by_test true t = absurd (true≢false (sym (stays_completed row c.states t) ∙ not_true (is_completed (control_fired row c.states).state) e))

-- it has no process job behind a row that it hadn't
pub left_before : (job : List ℕ) (row : ℕ) (c : ControlJob) → is_in job (left_behind row c) ≡ true → is_in job c.left ≡ true
left_before job row c e = by_test ((row == 9) && control_starts row c.states) e where
  by_test : (b : Bool) → is_in job (cond b [] c.left) ≡ true → is_in job c.left ≡ true
  by_test true f = absurd (true≢false (sym f))
  by_test false f = f

pub owns_fired : (job : List ℕ) (n row : ℕ) (c : ControlJob) → owns job (fires_at n row c) ≡ true → owns job c ≡ true
owns_fired job n row c e = by_test (c.number == n) e where
  by_test : (b : Bool) → owns job (cond b (fires_row row c) c) ≡ true → owns job c ≡ true
  by_test false f = f
  by_test true f =
      let parts = and_true (is_open (fires_row row c)) (is_in job (left_behind row c)) f in
      rw (open_before row c parts.0) (left_before job row c parts.1)

pub owns_left : (gone job : List ℕ) (c : ControlJob) → owns job (leaves gone c) ≡ true → owns job c ≡ true
owns_left gone job c e = by_test (owns gone c) e where
  by_test : (b : Bool) → owns job (cond b (record c { left = others gone c.left }) c) ≡ true → owns job c ≡ true
  by_test false f = f
  by_test true f =
      let parts = and_true (is_open c) (is_in job (others gone c.left)) f in
      rw parts.0 (in_others gone job c.left parts.1)

pub active_left : (gone : List ℕ) (c : ControlJob) → is_active (leaves gone c).states.state ≡ true → is_active c.states.state ≡ true
active_left gone c e = by_test (owns gone c) e where
  by_test : (b : Bool) → is_active (cond b (record c { left = others gone c.left }) c).states.state ≡ true → is_active c.states.state ≡ true
  by_test true f = f
  by_test false f = f

-- one that is active behind another row than 2 was
pub active_fired : (n row : ℕ) (c : ControlJob) → (row == 2) ≡ false → is_active (fires_at n row c).states.state ≡ true → is_active c.states.state ≡ true
active_fired n row c two e = by_test (c.number == n) e where
  by_active : (b : Bool) → is_active c.states.state ≡ b → is_active (control_fired row c.states).state ≡ true → b ≡ true
  by_active true t f = refl
  by_active false t f = absurd (true≢false (sym f ∙ not_true (is_active (control_fired row c.states).state) (stays_passive row c.states two (rw t refl))))

  by_test : (b : Bool) → is_active (cond b (fires_row row c) c).states.state ≡ true → is_active c.states.state ≡ true
  by_test true f = by_active (is_active c.states.state) refl f
  by_test false f = f

-- where none was, none but that of the number is
pub active_at : (n row : ℕ) (cs : List ControlJob) → is_any_active cs ≡ false → length (filter (λ c. is_active c.states.state) (map (fires_at n row) cs)) ≤ length (filter (λ c. c.number == n) cs)
active_at n row [] e = omega arith
active_at n row (c ∷ cs) e =
    let parts = or_false (is_active c.states.state) (is_any_active cs) e in
    by_test (c.number == n) parts.0 (active_at n row cs parts.1)
  where
    by_one : (b : Bool) → length (filter (λ d. is_active d.states.state) (map (fires_at n row) cs)) ≤ length (filter (λ d. d.number == n) cs)
        → length (cond b (fires_row row c ∷ filter (λ d. is_active d.states.state) (map (fires_at n row) cs)) (filter (λ d. is_active d.states.state) (map (fires_at n row) cs))) ≤ suc (length (filter (λ d. d.number == n) cs))
    by_one true l = omega (arith, l)
    by_one false l = omega (arith, l)

    by_test : (b : Bool) → is_active c.states.state ≡ false → length (filter (λ d. is_active d.states.state) (map (fires_at n row) cs)) ≤ length (filter (λ d. d.number == n) cs)
        → length (filter (λ d. is_active d.states.state) (cond b (fires_row row c) c ∷ map (fires_at n row) cs)) ≤ length (cond b (c ∷ filter (λ d. d.number == n) cs) (filter (λ d. d.number == n) cs))
    by_test true t l = by_one (is_active (control_fired row c.states).state) l
    by_test false t l = rw t l

-- ---- the job that is found

-- one that is found is found by its number
pub numbered_found : (test : ControlJob → Bool) (n : ℕ) (cs : List ControlJob) → are_apart (numbers_of cs) ≡ true → option_map (λ (c : ControlJob). c.number) (find test cs) ≡ Some n → job_numbered n cs ≡ find test cs
numbered_found test n [] h e = refl
numbered_found test n (c ∷ cs) h e =
    let parts = and_true (not (is_one_of (numbers_of cs) c.number)) (are_apart (numbers_of cs)) h in
    by_test (test c) e (not_true (is_one_of (numbers_of cs) c.number) parts.0) (numbered_found test n cs parts.1)
  where
    by_number : (b : Bool) → (c.number == n) ≡ b → is_one_of (numbers_of cs) c.number ≡ false → option_map (λ (d : ControlJob). d.number) (find test cs) ≡ Some n → job_numbered n cs ≡ find test cs → cond b (Some c) (job_numbered n cs) ≡ find test cs
    by_number true t first f later =
        let same : n ≡ c.number = grind (arith, nat_tests, t) in
        absurd (true≢false (sym (subst (λ (m : ℕ). is_one_of (numbers_of cs) m ≡ true) same (found_in test cs n f)) ∙ first))
    by_number false t first f later = later

    by_test : (b : Bool) → option_map (λ (d : ControlJob). d.number) (cond b (Some c) (find test cs)) ≡ Some n → is_one_of (numbers_of cs) c.number ≡ false → (option_map (λ (d : ControlJob). d.number) (find test cs) ≡ Some n → job_numbered n cs ≡ find test cs) → job_numbered n (c ∷ cs) ≡ cond b (Some c) (find test cs)
    by_test true f first later =
        let same : c.number ≡ n = cc in
        let here : (c.number == n) ≡ true = grind (arith, nat_tests, same) in
        rw here refl
    by_test false f first later = by_number (c.number == n) refl first f (later f)
