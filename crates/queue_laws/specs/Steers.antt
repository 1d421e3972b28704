-- A control job that executes and that nobody disturbs (after SEMI E94; this tool's profile, tables 14 and 15).
use Rattle.std.specs.Prelude.{◌≡◌, ℕ, ◌==◌, Bool, true, false, ◌&&◌, List, [], ◌∷◌, Option, Some, None}
use Rattle.gem_tables.specs.Table.{is_one_of}
use Rattle.process_job.specs.Jobs as process
use Rattle.process_job.specs.declared.record.JobState.{JobState}
use Rattle.process_job.specs.declared.record.JobState.TheVariants as process_state
use Rattle.process_job.specs.declared.job.ProcessJob.{ProcessJob}
use Rattle.control_job.specs.Jobs as control
use Rattle.control_job.specs.Tables.{states_number}
use Rattle.control_job.specs.Record.{is_active}
use Rattle.control_job.specs.declared.job.ControlJob.{ControlJob}
use Rattle.tool_jobs.specs.Jobs.{Jobs}
use Rattle.tool_jobs.specs.Wants.{is_none_left}
use Rattle.queue_laws.specs.Started.{is_queued, is_left_in}

-- there is a control job, and it is EXECUTING and isn't ending
abbrev pub is_executing : Option ControlJob → Bool
is_executing None = false
is_executing (Some c) = states_number c.states == 3

-- no process job is left in a control job, where there is one
abbrev pub has_none_left : Option ControlJob → Bool
has_none_left None = true
has_none_left (Some c) = is_none_left c.left

-- a process job is in a state in which one is that starts by itself and isn't disturbed: QUEUED, SETTING UP, PROCESSING or PROCESS
-- COMPLETE
abbrev pub goes_on : JobState → Bool
goes_on process_state.Queued = true
goes_on process_state.SettingUp = true
goes_on process_state.Processing = true
goes_on process_state.Complete = true
goes_on _ = false

-- ---- while it executes

-- The control job of this number executes, and nothing disturbed it.
abbrev pub Steers : ℕ → Jobs → Type 0
Steers number w = record {
  -- it is EXECUTING, and isn't ending
  executes : is_executing (control.job_numbered number w.control.jobs) ≡ true;
  -- no other one is active
  alone : (m : ℕ) (c : ControlJob) → control.job_numbered m w.control.jobs ≡ Some c → is_active c.states.state ≡ true → m ≡ number;
  -- each process job that is left in it starts by itself, and goes on
  auto : (n : ℕ) (j : ProcessJob) → process.job_numbered n w.process.kept ≡ Some j → is_left_in number j.id w ≡ true
      → j.auto ≡ true;
  going : (n : ℕ) (j : ProcessJob) → process.job_numbered n w.process.kept ≡ Some j → is_left_in number j.id w ≡ true
      → goes_on j.states.state ≡ true;
  -- each that isn't QUEUED is left in it
  started : (n : ℕ) (j : ProcessJob) → process.job_numbered n w.process.kept ≡ Some j → is_queued j.states.state ≡ false
      → is_left_in number j.id w ≡ true;
}

-- ---- as it starts

-- each process job that is left in it starts by itself
abbrev pub AreAutomatic : ℕ → Jobs → Type 0
AreAutomatic number w = (n : ℕ) (j : ProcessJob) → process.job_numbered n w.process.kept ≡ Some j → is_left_in number j.id w ≡ true
    → j.auto ≡ true

-- ---- what disturbs it

-- row 8, 11, 12 or 15 of table 14, of a process job that is left in it
abbrev pub disturbs_process : ℕ → List ℕ → ℕ → Jobs → Bool
disturbs_process number job row w = is_one_of (8 ∷ 11 ∷ 12 ∷ 15 ∷ []) row && is_left_in number job w

-- row 6, 11 or 12 of table 15, of itself
abbrev pub disturbs_control : ℕ → ℕ → ℕ → Bool
disturbs_control number m row = (m == number) && is_one_of (6 ∷ 11 ∷ 12 ∷ []) row

-- it completes: row 8 of table 15, of itself
abbrev pub is_completion : ℕ → ℕ → ℕ → Bool
is_completion number m row = (m == number) && (row == 8)
