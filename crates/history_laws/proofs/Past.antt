-- A control job that has completed, or is kept no more, stays so, whatever comes.
use Rattle.std.proofs.Common.{◌≡◌, ◌⊎◌, ◌≤◌, ℕ, ◌+◌, ◌==◌, Bool, false, List, [], ◌∷◌, ◌++◌, Option, Some, None, map, not, inl, inr, refl, sym, ◌∙◌, ap, subst, arith}
use Rattle.std.proofs.lemmas.Bool.{not-false}
use Rattle.gem_tables.specs.Table.{row_of}
use Rattle.gem_tables.specs.declared.firing.Firing.{Firing}
use Rattle.floor_model.proofs.EachTable.{either_creates}
use Rattle.shop_floor.specs.Owning.{owner_number}
use Rattle.process_job.specs.Jobs as process
use Rattle.process_job.specs.Tables as effect
use Rattle.process_job.specs.Tables.{JobRow, JobEffect, job_table}
use Rattle.process_job.specs.declared.job.ProcessJob.{ProcessJob}
use Rattle.control_job.specs.Jobs.{JobStore, job_numbered, is_open, fired_at, fires_at, fires_row, leaves, left_by, new_job, jobs_without, with_created}
use Rattle.control_job.specs.Record.{is_completed}
use Rattle.control_job.specs.Creating.{created, replaced_by, kept_without}
use Rattle.control_job.specs.declared.job.ControlJob.{ControlJob}
use Rattle.control_job.proofs.Keeping.{leaves_number, fires_number}
use Rattle.tool_jobs.specs.Jobs.{Jobs}
use Rattle.tool_jobs.specs.Rows.{left_by as job_left_by, process_does, found_does as jobs_behind, process_fired}
use Rattle.tool_jobs.proofs.Rows.{stays_completed}
use Rattle.floor_model.specs.declared.tracked.Substrate.{Substrate}
use Rattle.floor_model.specs.Floor.{ToolFloor, substrate_numbered}
use Rattle.floor_model.specs.Modules.{issued, open_task, aligned_by, stepped_by, move_does, found_move}
use Rattle.floor_model.specs.Machines.{taken_along, floor_fired}
use Rattle.floor_model.specs.Substrates.{without_carrier, substrate_does, found_does}
use Rattle.floor_model.specs.Views.{planned}
use Rattle.floor_model.proofs.Registrations.{row_registered}
use Rattle.robot_moves.specs.Tables as want
use Rattle.robot_moves.specs.Tables.{MoveRow, MoveEffect, move_table}
use Rattle.robot_moves.specs.Modules.{module_at}
use Rattle.robot_moves.specs.declared.view.Move.{Move}
use Rattle.substrate.specs.Tables as place
use Rattle.substrate.specs.Tables.{SubstrateRow, SubstrateEffect, processing_table}
use Rattle.substrate.specs.declared.record.Processing.{Processing}
use Rattle.tool_tasks.specs.declared.task.Task.{Task}
use Rattle.tool_tasks.specs.declared.task.Task.TheVariants as task
use Rattle.queue_laws.proofs.Lists.{number_is, changed_back, without_back, more_back}
use Rattle.queue_laws.proofs.Owners.{states_left}
use Rattle.gem_model.proofs.Creating.{BecomesControl, one_added, one_headed}
use Rattle.gem_model.proofs.EachFloor.{EachOnFloor}
use Rattle.gem_model.proofs.Tests.{either_way}

-- ---- what rows do to control jobs

module _ (P : JobStore → Type 0) (leaves_keep : (job : List ℕ) (s : JobStore) → P s → P (left_by job s)) (row_keeps : (row n : ℕ) (s : JobStore) → P s → P (fired_at n row s)) where
  -- it holds of the control jobs of a floor
  abbrev Of : ToolFloor → Type 0
  Of f = P f.jobs.control

  left_of : (o : Option ProcessJob) (s : JobStore) → P s → P (job_left_by o s)
  left_of None s at = at
  left_of (Some j) s at = leaves_keep j.id s at

  does_of : (e : JobEffect) (n : ℕ) (w : Jobs) → P w.control → P (process_does e n w).control
  does_of effect.no_more n w at = at
  does_of effect.makes_members n w at = at
  does_of effect.ends n w at = left_of (process.job_numbered n w.process.kept) w.control at
  does_of effect.ends_stopped n w at = left_of (process.job_numbered n w.process.kept) w.control at

  process_of : (row n : ℕ) (w : Jobs) → P w.control → P (process_fired row n w).control
  process_of row n w at = of (row_of job_table row) where
    of : (o : Option JobRow) → P (jobs_behind o n (record w { process = process.fired n row w.process })).control
    of None = at
    of (Some r) = does_of r.does n (record w { process = process.fired n row w.process }) at

  along : (row port : ℕ) (f : ToolFloor) → Of f → Of (taken_along row port f)
  along row port f at = either_way Of (row == 6) (without_carrier (owner_number port f.shop) f) f (of (owner_number port f.shop)) at where
    of : (o : Option ℕ) → Of (without_carrier o f)
    of None = at
    of (Some c) = at

  lost_of : (r : Option (SubstrateRow Processing)) (o : Option Substrate) (f : ToolFloor) → Of f → Of (found_does r o f)
  lost_of None o f at = at
  lost_of (Some r) o f at = of r.does o where
    of : (e : SubstrateEffect) (o : Option Substrate) → Of (substrate_does e o f)
    of place.no_more o = at
    of place.loses_place None = at
    of place.loses_place (Some s) = at

  issued_of : (number : ℕ) (o : Option Move) (f : ToolFloor) → Of f → Of (issued number o f)
  issued_of number None f at = at
  issued_of number (Some m) f at = at

  aligned_of : (o : Option Task) (f : ToolFloor) → Of f → Of (aligned_by o f)
  aligned_of None f at = at
  aligned_of (Some (task.Pick sub from)) f at = at
  aligned_of (Some (task.Place sub to)) f at = at
  aligned_of (Some (task.Align sub)) f at = at
  aligned_of (Some (task.Process sub recipe)) f at = at

  stepped_of : (o : Option Task) (f : ToolFloor) → Of f → Of (stepped_by o f)
  stepped_of None f at = at
  stepped_of (Some (task.Pick sub from)) f at = at
  stepped_of (Some (task.Place sub to)) f at = at
  stepped_of (Some (task.Align sub)) f at = at
  stepped_of (Some (task.Process sub recipe)) f at = at

  move_of : (o : Option MoveRow) (number : ℕ) (plan : Option Move) (f : ToolFloor) → Of f → Of (found_move o number plan f)
  move_of None number plan f at = at
  move_of (Some r) number plan f at = of r.does where
    of : (e : MoveEffect) → Of (move_does e number plan f)
    of want.no_more = at
    of want.issues_place = issued_of number plan f at
    of want.issues_pick = issued_of number plan f at
    of want.issues_align = issued_of number plan f at
    of want.issues_process = issued_of number plan f at
    of want.moves = at
    of want.aligns = aligned_of (open_task (module_at number f.modules)) f at
    of want.steps = stepped_of (open_task (module_at number f.modules)) f at
    of want.closes = at
    of want.clears_alarm = at

  control_row : (x : Firing) (f : ToolFloor) → Of f → Of (floor_fired x f)
  control_row x f at =
      either_creates (λ (fs : List Firing) (h : ToolFloor). Of h) f x at (record {
        transfer = at;
        access = at;
        reservation = at;
        association = along x.row.row x.object f at;
        id = at;
        map = subst (λ (w : Jobs). P w.control) (sym (row_registered x.row.row x.object f).jobs) at;
        accessing = at;
        location = at;
        transport = at;
        processing = lost_of (row_of processing_table x.row.row) (substrate_numbered x.object f.substrates) f at;
        process_job = process_of x.row.row x.object f.jobs at;
        control_job = row_keeps x.row.row x.object f.jobs.control at;
        move = move_of (row_of move_table x.row.row) x.object (planned x.object f) f at;
      })

-- ---- one that is past

-- The control job of a number is COMPLETED, or it is kept no more, and no further one gets the number.
pub record IsPast (number : ℕ) (s : JobStore) : Type 0 where
  pub given : number ≤ s.given
  pub closed : (c : ControlJob) → job_numbered number s.jobs ≡ Some c → is_open c ≡ false

module _ (number : ℕ) where
  -- where the jobs change one by one, keeping their numbers, and one that is COMPLETED stays so
  changed_past : (change : ControlJob → ControlJob) (s u : JobStore) → u.given ≡ s.given → u.jobs ≡ map change s.jobs → ((c : ControlJob) → (change c).number ≡ c.number)
      → ((c : ControlJob) → is_open c ≡ false → is_open (change c) ≡ false) → IsPast number s → IsPast number u
  changed_past change s u given jobs same closes past = record {
    given = let a = past.given in omega (arith, a, given);
    closed = λ d found.
        let b = changed_back change number s.jobs d same (ap (job_numbered number) (sym jobs) ∙ found) in
        ap is_open b.2 ∙ closes b.0 (past.closed b.0 b.1);
  }

  closed_left : (job : List ℕ) (c : ControlJob) → is_open c ≡ false → is_open (leaves job c) ≡ false
  closed_left job c e = ap (λ x. not (is_completed x.state)) (states_left job c) ∙ e

  closed_row : (row : ℕ) (c : ControlJob) → is_open c ≡ false → is_open (fires_row row c) ≡ false
  closed_row row c e = ap not (stays_completed row c.states (not-false (is_completed c.states.state) e))

  closed_at : (n row : ℕ) (c : ControlJob) → is_open c ≡ false → is_open (fires_at n row c) ≡ false
  closed_at n row c e = either_way (λ (x : ControlJob). is_open x ≡ false) (c.number == n) (fires_row row c) c (closed_row row c e) e

  left_past : (job : List ℕ) (s : JobStore) → IsPast number s → IsPast number (left_by job s)
  left_past job s past = changed_past (leaves job) s (left_by job s) refl refl (leaves_number job) (closed_left job) past

  row_past : (row n : ℕ) (s : JobStore) → IsPast number s → IsPast number (fired_at n row s)
  row_past row n s past = changed_past (fires_at n row) s (fired_at n row s) refl refl (fires_number n row) (closed_at n row) past

  -- a new one has a further number
  added_past : (name : List ℕ) (named : List (List ℕ)) (auto : Bool) (s : JobStore) → IsPast number s → IsPast number (created name named auto s)
  added_past name named auto s past = of (replaced_by name s.jobs) where
    new : ControlJob
    new = new_job (s.given + 1) name named auto

    fits : number ≤ s.given + 1
    fits = let a = past.given in omega (arith, a)

    closes : (js : List ControlJob) → ((c : ControlJob) → job_numbered number js ≡ Some c → is_open c ≡ false) → (c : ControlJob) → job_numbered number (js ++ new ∷ []) ≡ Some c → is_open c ≡ false
    closes js old c found = by (more_back new number js c found) where
      by : (job_numbered number js ≡ Some c) ⊎ (c ≡ new) → is_open c ≡ false
      by (inl before) = old c before
      by (inr is) = absurd (let named = number_is number (js ++ new ∷ []) c found in let its : c.number ≡ s.given + 1 = ap (λ (x : ControlJob). x.number) is in let a = past.given in omega (arith, named, its, a))

    of : (o : Option ℕ) → IsPast number (with_created name named auto (kept_without o s))
    of None = record { given = fits; closed = closes s.jobs past.closed }
    of (Some k) = record { given = fits; closed = closes (jobs_without k s.jobs) (λ c found. past.closed c (without_back k number s.jobs c found)) }

  becomes_past : (w : Jobs) (s : JobStore) → BecomesControl w s → IsPast number w.control → IsPast number s
  becomes_past w _ (one_added name named auto none) past = added_past name named auto w.control past
  becomes_past w _ (one_headed name) past = record { given = past.given; closed = past.closed }

  -- it stays so, whatever comes
  pub past_each : EachOnFloor (λ (f : ToolFloor). IsPast number f.jobs.control)
  past_each = record {
    row = λ x f starts past. control_row (IsPast number) left_past row_past x f past;
    fetched = λ n f past. past;
    came = λ port name slots f past. past;
    written = λ a f is past. past;
    process = λ spec f faultless past. past;
    control = λ s f becomes past. becomes_past f.jobs s becomes past;
  }
