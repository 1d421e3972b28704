-- Each row of a job that fires by itself lets what is left fall, and starts.
use Rattle.std.proofs.Common.{◌≡◌, ℕ, ◌+◌, ◌==◌, ◌≤◌, ◌<◌, nat_lt, nat_le, Bool, true, false, cond, not, ◌&&◌, ◌||◌, List, [], ◌∷◌, map, Option, Some, None, refl, arith}
use Rattle.std.proofs.lemmas.Bool.Decides.{nat_tests}
use Rattle.gem_tables.specs.Table.{row_of, is_one_of, after, first_itself}
use Rattle.gem_tables.proofs.Rows.{ready_may_fire}
use Rattle.process_job.specs.Tables.{JobRow, JobEffect, JobWant, job_number, job_table}
use Rattle.process_job.specs.Tables as effect
use Rattle.process_job.specs.Jobs as process
use Rattle.process_job.specs.Jobs.{has_number, change_numbered, without_numbered, fires_row as process_fires_row}
use Rattle.process_job.specs.declared.record.JobState.{JobState}
use Rattle.process_job.specs.declared.record.JobState.TheVariants as state
use Rattle.process_job.specs.declared.job.ProcessJob.{ProcessJob}
use Rattle.control_job.specs.Tables.{ControlWant, control_table, states_number}
use Rattle.control_job.specs.Record.{control_fired as states_fired}
use Rattle.control_job.specs.Jobs.{JobStore, owns, fires_row, fires_at, leaves, job_numbered}
use Rattle.control_job.specs.Names.{others}
use Rattle.control_job.specs.declared.record.ControlState.{ControlState}
use Rattle.control_job.specs.declared.record.ControlState.TheVariants.{Queued, Selected, WaitingForStart, Executing, Paused, Completed}
use Rattle.control_job.specs.declared.record.Ending.{Ending}
use Rattle.control_job.specs.declared.record.Ending.TheVariants.{No, ByStop, ByAbort}
use Rattle.control_job.specs.declared.record.ControlJobRecord.{ControlJobRecord}
use Rattle.control_job.specs.declared.job.ControlJob.{ControlJob}
use Rattle.records.proofs.Truth.{and_true}
use Rattle.tool_jobs.specs.declared.sight.Sight.{Sight}
use Rattle.tool_jobs.specs.Jobs.{Jobs}
use Rattle.tool_jobs.specs.Wants.{process_wants, control_wants}
use Rattle.tool_jobs.specs.Rows.{left_by, does_end, found_ends, process_does, found_does, process_starts, process_ready, process_fired, control_starts, control_ready, control_fired}
use Rattle.tool_jobs.specs.Left.{state_left, process_left, control_state_left, control_left, jobs_left}
use Rattle.tool_jobs.proofs.Rows.{after_meets, ready_meets}

-- ---- process jobs

-- a row ends a process job in this state, or what is left of it falls
abbrev falls : JobState → ℕ → Bool
falls s row = found_ends (row_of job_table row) || nat_lt (state_left (after job_number job_table row s)) (state_left s)

-- each row that is ready by itself does
ready_falls : (finds : JobWant → Bool) (row : ℕ) (s : JobState) → first_itself job_number finds job_table s ≡ Some row → falls s row ≡ true
ready_falls finds row state.Queued e = ready_meets job_number finds (falls state.Queued) job_table row state.Queued refl e
ready_falls finds row state.SettingUp e = ready_meets job_number finds (falls state.SettingUp) job_table row state.SettingUp refl e
ready_falls finds row state.WaitingForStart e = ready_meets job_number finds (falls state.WaitingForStart) job_table row state.WaitingForStart refl e
ready_falls finds row state.Processing e = ready_meets job_number finds (falls state.Processing) job_table row state.Processing refl e
ready_falls finds row state.Complete e = ready_meets job_number finds (falls state.Complete) job_table row state.Complete refl e
ready_falls finds row state.Pausing e = ready_meets job_number finds (falls state.Pausing) job_table row state.Pausing refl e
ready_falls finds row state.Paused e = ready_meets job_number finds (falls state.Paused) job_table row state.Paused refl e
ready_falls finds row state.Stopping e = ready_meets job_number finds (falls state.Stopping) job_table row state.Stopping refl e
ready_falls finds row state.Aborting e = ready_meets job_number finds (falls state.Aborting) job_table row state.Aborting refl e

some_left : (s : JobState) → 0 < state_left s
some_left state.Queued = omega arith
some_left state.SettingUp = omega arith
some_left state.WaitingForStart = omega arith
some_left state.Processing = omega arith
some_left state.Complete = omega arith
some_left state.Pausing = omega arith
some_left state.Paused = omega arith
some_left state.Stopping = omega arith
some_left state.Aborting = omega arith

-- what is left falls where it falls at the job of the number
fired_less : (number row : ℕ) (j : ProcessJob) (js : List ProcessJob) → process.job_numbered number js ≡ Some j → state_left (after job_number job_table row j.states.state) < state_left j.states.state
    → process_left (change_numbered number (process_fires_row row) js) < process_left js
fired_less number row j [] e l = absurd (cc)
fired_less number row j (k ∷ ks) e l = by_test (has_number number k) e (λ f. fired_less number row j ks f l) where
  by_test : (b : Bool) → cond b (Some k) (process.job_numbered number ks) ≡ Some j → (process.job_numbered number ks ≡ Some j → process_left (change_numbered number (process_fires_row row) ks) < process_left ks)
      → process_left (cond b (process_fires_row row k ∷ ks) (k ∷ change_numbered number (process_fires_row row) ks)) < state_left k.states.state + process_left ks
  by_test true f later =
      let same : k ≡ j = cc in
      let less : state_left (after job_number job_table row k.states.state) < state_left k.states.state = rw same l in
      omega (arith, less)
  by_test false f later = let less = later f in omega (arith, less)

-- and where it goes
gone_less : (number row : ℕ) (j : ProcessJob) (js : List ProcessJob) → process.job_numbered number js ≡ Some j → process_left (without_numbered number (change_numbered number (process_fires_row row) js)) < process_left js
gone_less number row j [] e = absurd (cc)
gone_less number row j (k ∷ ks) e = by_test (has_number number k) refl e (gone_less number row j ks) where
  by_test : (b : Bool) → has_number number k ≡ b → cond b (Some k) (process.job_numbered number ks) ≡ Some j → (process.job_numbered number ks ≡ Some j → process_left (without_numbered number (change_numbered number (process_fires_row row) ks)) < process_left ks)
      → process_left (without_numbered number (cond b (process_fires_row row k ∷ ks) (k ∷ change_numbered number (process_fires_row row) ks))) < state_left k.states.state + process_left ks
  by_test true t f later = let some = some_left k.states.state in rw t (omega (arith, some))
  by_test false t f later = let less = later f in rw t (omega (arith, less))

-- a process job that leaves its control job changes nothing there
leaves_same : (job : List ℕ) (cs : List ControlJob) → control_left (map (leaves job) cs) ≡ control_left cs
leaves_same job [] = refl
leaves_same job (c ∷ cs) = by_test (owns job c) (leaves_same job cs) where
  by_test : (b : Bool) → control_left (map (leaves job) cs) ≡ control_left cs
      → control_state_left (cond b (record c { left = others job c.left }) c).states.state + control_left (map (leaves job) cs) ≡ control_state_left c.states.state + control_left cs
  by_test true later = rw later refl
  by_test false later = rw later refl

left_same : (o : Option ProcessJob) (s : JobStore) → control_left (left_by o s).jobs ≡ control_left s.jobs
left_same None s = refl
left_same (Some j) s = leaves_same j.id s.jobs

pub process_falls : (w : Jobs) (number row : ℕ) (sight : Sight) → process_ready (process.job_numbered number w.process.kept) sight w ≡ Some row → jobs_left (process_fired row number w) < jobs_left w
process_falls w number row sight e = by_job (process.job_numbered number w.process.kept) refl e where
  was : Jobs
  was = record w { process = process.fired number row w.process }

  by_does : (j : ProcessJob) (does : JobEffect) → process.job_numbered number w.process.kept ≡ Some j → (does_end does || nat_lt (state_left (after job_number job_table row j.states.state)) (state_left j.states.state)) ≡ true → jobs_left (process_does does number was) < jobs_left w
  by_does j effect.no_more f t =
      let l : state_left (after job_number job_table row j.states.state) < state_left j.states.state = grind (arith, nat_tests, t) in
      let less = fired_less number row j w.process.kept f l in
      omega (arith, less)
  by_does j effect.makes_members f t =
      let l : state_left (after job_number job_table row j.states.state) < state_left j.states.state = grind (arith, nat_tests, t) in
      let less = fired_less number row j w.process.kept f l in
      omega (arith, less)
  by_does j effect.ends f t =
      let less = gone_less number row j w.process.kept f in
      let same = left_same (process.job_numbered number (change_numbered number (process_fires_row row) w.process.kept)) w.control in
      omega (arith, less, same)
  by_does j effect.ends_stopped f t =
      let less = gone_less number row j w.process.kept f in
      let same = left_same (process.job_numbered number (change_numbered number (process_fires_row row) w.process.kept)) w.control in
      omega (arith, less, same)

  by_row : (j : ProcessJob) (o : Option JobRow) → process.job_numbered number w.process.kept ≡ Some j → (found_ends o || nat_lt (state_left (after job_number job_table row j.states.state)) (state_left j.states.state)) ≡ true → jobs_left (found_does o number was) < jobs_left w
  by_row j None f t = by_does j effect.no_more f t
  by_row j (Some r) f t = by_does j r.does f t

  by_job : (o : Option ProcessJob) → process.job_numbered number w.process.kept ≡ o → process_ready o sight w ≡ Some row → jobs_left (process_fired row number w) < jobs_left w
  by_job None f g = absurd (cc)
  by_job (Some j) f g = by_row j (row_of job_table row) f (ready_falls (λ want. process_wants want j sight w) row j.states.state g)

-- ---- control jobs

-- a row is one of those that fire by themselves
abbrev is_by_itself : ℕ → Bool
is_by_itself row = is_one_of (2 ∷ 3 ∷ 4 ∷ 8 ∷ []) row

-- none of them lets what is left of a control job rise
never_rises : (row : ℕ) (s : ControlState) (ending : Ending) → not (is_by_itself row) ≡ false → nat_le (control_state_left (states_fired row (record { state = s; ending = ending })).state) (control_state_left s) ≡ true
never_rises row Queued No e = after_meets states_number (λ (t : ControlJobRecord). nat_le (control_state_left t.state) 4) (λ n. not (is_by_itself n)) row (record { state = Queued; ending = No }) control_table e refl refl
never_rises row Queued ByStop e = after_meets states_number (λ (t : ControlJobRecord). nat_le (control_state_left t.state) 4) (λ n. not (is_by_itself n)) row (record { state = Queued; ending = ByStop }) control_table e refl refl
never_rises row Queued ByAbort e = after_meets states_number (λ (t : ControlJobRecord). nat_le (control_state_left t.state) 4) (λ n. not (is_by_itself n)) row (record { state = Queued; ending = ByAbort }) control_table e refl refl
never_rises row Selected No e = after_meets states_number (λ (t : ControlJobRecord). nat_le (control_state_left t.state) 3) (λ n. not (is_by_itself n)) row (record { state = Selected; ending = No }) control_table e refl refl
never_rises row Selected ByStop e = after_meets states_number (λ (t : ControlJobRecord). nat_le (control_state_left t.state) 3) (λ n. not (is_by_itself n)) row (record { state = Selected; ending = ByStop }) control_table e refl refl
never_rises row Selected ByAbort e = after_meets states_number (λ (t : ControlJobRecord). nat_le (control_state_left t.state) 3) (λ n. not (is_by_itself n)) row (record { state = Selected; ending = ByAbort }) control_table e refl refl
never_rises row WaitingForStart No e = after_meets states_number (λ (t : ControlJobRecord). nat_le (control_state_left t.state) 2) (λ n. not (is_by_itself n)) row (record { state = WaitingForStart; ending = No }) control_table e refl refl
never_rises row WaitingForStart ByStop e = after_meets states_number (λ (t : ControlJobRecord). nat_le (control_state_left t.state) 2) (λ n. not (is_by_itself n)) row (record { state = WaitingForStart; ending = ByStop }) control_table e refl refl
never_rises row WaitingForStart ByAbort e = after_meets states_number (λ (t : ControlJobRecord). nat_le (control_state_left t.state) 2) (λ n. not (is_by_itself n)) row (record { state = WaitingForStart; ending = ByAbort }) control_table e refl refl
never_rises row Executing No e = after_meets states_number (λ (t : ControlJobRecord). nat_le (control_state_left t.state) 1) (λ n. not (is_by_itself n)) row (record { state = Executing; ending = No }) control_table e refl refl
never_rises row Executing ByStop e = after_meets states_number (λ (t : ControlJobRecord). nat_le (control_state_left t.state) 1) (λ n. not (is_by_itself n)) row (record { state = Executing; ending = ByStop }) control_table e refl refl
never_rises row Executing ByAbort e = after_meets states_number (λ (t : ControlJobRecord). nat_le (control_state_left t.state) 1) (λ n. not (is_by_itself n)) row (record { state = Executing; ending = ByAbort }) control_table e refl refl
never_rises row Paused No e = after_meets states_number (λ (t : ControlJobRecord). nat_le (control_state_left t.state) 0) (λ n. not (is_by_itself n)) row (record { state = Paused; ending = No }) control_table e refl refl
never_rises row Paused ByStop e = after_meets states_number (λ (t : ControlJobRecord). nat_le (control_state_left t.state) 0) (λ n. not (is_by_itself n)) row (record { state = Paused; ending = ByStop }) control_table e refl refl
never_rises row Paused ByAbort e = after_meets states_number (λ (t : ControlJobRecord). nat_le (control_state_left t.state) 0) (λ n. not (is_by_itself n)) row (record { state = Paused; ending = ByAbort }) control_table e refl refl
never_rises row Completed No e = after_meets states_number (λ (t : ControlJobRecord). nat_le (control_state_left t.state) 0) (λ n. not (is_by_itself n)) row (record { state = Completed; ending = No }) control_table e refl refl
never_rises row Completed ByStop e = after_meets states_number (λ (t : ControlJobRecord). nat_le (control_state_left t.state) 0) (λ n. not (is_by_itself n)) row (record { state = Completed; ending = ByStop }) control_table e refl refl
never_rises row Completed ByAbort e = after_meets states_number (λ (t : ControlJobRecord). nat_le (control_state_left t.state) 0) (λ n. not (is_by_itself n)) row (record { state = Completed; ending = ByAbort }) control_table e refl refl

-- and each that is ready lets it fall
abbrev control_falls_so : ControlJobRecord → ℕ → Bool
control_falls_so s row = is_by_itself row && nat_lt (control_state_left (states_fired row s).state) (control_state_left s.state)

ready_control_falls : (finds : ControlWant → Bool) (row : ℕ) (s : ControlState) (ending : Ending) → first_itself states_number finds control_table (record { state = s; ending = ending }) ≡ Some row → control_falls_so (record { state = s; ending = ending }) row ≡ true
ready_control_falls finds row Queued No e = ready_meets states_number finds (control_falls_so (record { state = Queued; ending = No })) control_table row (record { state = Queued; ending = No }) refl e
ready_control_falls finds row Queued ByStop e = ready_meets states_number finds (control_falls_so (record { state = Queued; ending = ByStop })) control_table row (record { state = Queued; ending = ByStop }) refl e
ready_control_falls finds row Queued ByAbort e = ready_meets states_number finds (control_falls_so (record { state = Queued; ending = ByAbort })) control_table row (record { state = Queued; ending = ByAbort }) refl e
ready_control_falls finds row Selected No e = ready_meets states_number finds (control_falls_so (record { state = Selected; ending = No })) control_table row (record { state = Selected; ending = No }) refl e
ready_control_falls finds row Selected ByStop e = ready_meets states_number finds (control_falls_so (record { state = Selected; ending = ByStop })) control_table row (record { state = Selected; ending = ByStop }) refl e
ready_control_falls finds row Selected ByAbort e = ready_meets states_number finds (control_falls_so (record { state = Selected; ending = ByAbort })) control_table row (record { state = Selected; ending = ByAbort }) refl e
ready_control_falls finds row WaitingForStart No e = ready_meets states_number finds (control_falls_so (record { state = WaitingForStart; ending = No })) control_table row (record { state = WaitingForStart; ending = No }) refl e
ready_control_falls finds row WaitingForStart ByStop e = ready_meets states_number finds (control_falls_so (record { state = WaitingForStart; ending = ByStop })) control_table row (record { state = WaitingForStart; ending = ByStop }) refl e
ready_control_falls finds row WaitingForStart ByAbort e = ready_meets states_number finds (control_falls_so (record { state = WaitingForStart; ending = ByAbort })) control_table row (record { state = WaitingForStart; ending = ByAbort }) refl e
ready_control_falls finds row Executing No e = ready_meets states_number finds (control_falls_so (record { state = Executing; ending = No })) control_table row (record { state = Executing; ending = No }) refl e
ready_control_falls finds row Executing ByStop e = ready_meets states_number finds (control_falls_so (record { state = Executing; ending = ByStop })) control_table row (record { state = Executing; ending = ByStop }) refl e
ready_control_falls finds row Executing ByAbort e = ready_meets states_number finds (control_falls_so (record { state = Executing; ending = ByAbort })) control_table row (record { state = Executing; ending = ByAbort }) refl e
ready_control_falls finds row Paused No e = ready_meets states_number finds (control_falls_so (record { state = Paused; ending = No })) control_table row (record { state = Paused; ending = No }) refl e
ready_control_falls finds row Paused ByStop e = ready_meets states_number finds (control_falls_so (record { state = Paused; ending = ByStop })) control_table row (record { state = Paused; ending = ByStop }) refl e
ready_control_falls finds row Paused ByAbort e = ready_meets states_number finds (control_falls_so (record { state = Paused; ending = ByAbort })) control_table row (record { state = Paused; ending = ByAbort }) refl e
ready_control_falls finds row Completed No e = ready_meets states_number finds (control_falls_so (record { state = Completed; ending = No })) control_table row (record { state = Completed; ending = No }) refl e
ready_control_falls finds row Completed ByStop e = ready_meets states_number finds (control_falls_so (record { state = Completed; ending = ByStop })) control_table row (record { state = Completed; ending = ByStop }) refl e
ready_control_falls finds row Completed ByAbort e = ready_meets states_number finds (control_falls_so (record { state = Completed; ending = ByAbort })) control_table row (record { state = Completed; ending = ByAbort }) refl e

no_rise : (n row : ℕ) (c : ControlJob) → is_by_itself row ≡ true → control_state_left (fires_at n row c).states.state ≤ control_state_left c.states.state
no_rise n row c own = by_test (c.number == n) where
  by_test : (b : Bool) → control_state_left (cond b (fires_row row c) c).states.state ≤ control_state_left c.states.state
  by_test true = let l = never_rises row c.states.state c.states.ending (rw own refl) in grind (arith, nat_tests, l)
  by_test false = omega arith

no_rises : (n row : ℕ) (cs : List ControlJob) → is_by_itself row ≡ true → control_left (map (fires_at n row) cs) ≤ control_left cs
no_rises n row [] own = omega arith
no_rises n row (c ∷ cs) own = let one = no_rise n row c own in let rest = no_rises n row cs own in omega (arith, one, rest)

control_less : (n row : ℕ) (c : ControlJob) (cs : List ControlJob) → is_by_itself row ≡ true → job_numbered n cs ≡ Some c → control_state_left (states_fired row c.states).state < control_state_left c.states.state
    → control_left (map (fires_at n row) cs) < control_left cs
control_less n row c [] own e l = absurd (cc)
control_less n row c (d ∷ ds) own e l = by_test (d.number == n) refl e (λ f. control_less n row c ds own f l) where
  by_test : (b : Bool) → (d.number == n) ≡ b → cond b (Some d) (job_numbered n ds) ≡ Some c → (job_numbered n ds ≡ Some c → control_left (map (fires_at n row) ds) < control_left ds)
      → control_state_left (cond b (fires_row row d) d).states.state + control_left (map (fires_at n row) ds) < control_state_left d.states.state + control_left ds
  by_test true t f later =
      let same : d ≡ c = cc in
      let less : control_state_left (states_fired row d.states).state < control_state_left d.states.state = rw same l in
      let rest = no_rises n row ds own in
      omega (arith, less, rest)
  by_test false t f later = let less = later f in omega (arith, less)

pub control_falls : (w : Jobs) (number row : ℕ) (here : Bool) → control_ready (job_numbered number w.control.jobs) here w ≡ Some row → jobs_left (control_fired row number w) < jobs_left w
control_falls w number row here e = by_job (job_numbered number w.control.jobs) refl e where
  by_job : (o : Option ControlJob) → job_numbered number w.control.jobs ≡ o → control_ready o here w ≡ Some row → jobs_left (control_fired row number w) < jobs_left w
  by_job None f g = absurd (cc)
  by_job (Some c) f g =
      let h = ready_control_falls (λ want. control_wants want c here w.control) row c.states.state c.states.ending g in
      let parts = and_true (is_by_itself row) (nat_lt (control_state_left (states_fired row c.states).state) (control_state_left c.states.state)) h in
      let t = parts.1 in
      let l : control_state_left (states_fired row c.states).state < control_state_left c.states.state = grind (arith, nat_tests, t) in
      let less = control_less number row c w.control.jobs parts.0 f l in
      omega (arith, less)

-- ---- a row that is ready starts

pub process_ready_starts : (o : Option ProcessJob) (row : ℕ) (sight : Sight) (w : Jobs) → process_ready o sight w ≡ Some row → process_starts row o sight w ≡ true
process_ready_starts None row sight w e = absurd (cc)
process_ready_starts (Some j) row sight w e = ready_may_fire job_number (λ want. process_wants want j sight w) job_table row j.states.state (refl, (refl, (refl, (refl, (refl, (refl, (refl, (refl, (refl, (refl, (refl, (refl, (refl, (refl, (refl, (refl, (refl, (refl, tt)))))))))))))))))) e

pub control_ready_starts : (o : Option ControlJob) (row : ℕ) (here : Bool) (w : Jobs) → control_ready o here w ≡ Some row → control_starts row o here w ≡ true
control_ready_starts None row here w e = absurd (cc)
control_ready_starts (Some c) row here w e = ready_may_fire states_number (λ want. control_wants want c here w.control) control_table row c.states (refl, (refl, (refl, (refl, (refl, (refl, (refl, (refl, (refl, (refl, (refl, (refl, tt)))))))))))) e
