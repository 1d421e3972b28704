-- Which control job a process job is left in, and what holds at every moment of process jobs that were started (after SEMI E40 and
-- SEMI E94; this tool's profile, tables 14 and 15).
use Rattle.std.specs.Prelude.{◌≡◌, ℕ, Bool, true, false, List, Option, Some, None}
use Rattle.process_job.specs.Jobs as process
use Rattle.process_job.specs.declared.record.JobState.{JobState}
use Rattle.process_job.specs.declared.record.JobState.TheVariants as process_state
use Rattle.process_job.specs.declared.job.ProcessJob.{ProcessJob}
use Rattle.control_job.specs.Jobs as control
use Rattle.control_job.specs.Jobs.{owns}
use Rattle.control_job.specs.Tables.{state_number}
use Rattle.control_job.specs.declared.record.ControlState.{ControlState}
use Rattle.control_job.specs.declared.record.ControlState.TheVariants.{Executing, Paused}
use Rattle.control_job.specs.declared.job.ControlJob.{ControlJob}
use Rattle.tool_jobs.specs.Jobs.{Jobs}
use Rattle.tool_jobs.specs.Wants.{is_ending}

-- a process job is QUEUED
abbrev pub is_queued : JobState → Bool
is_queued process_state.Queued = true
is_queued _ = false

-- a control job is EXECUTING or PAUSED
abbrev pub is_begun : ControlState → Bool
is_begun Executing = true
is_begun Paused = true
is_begun _ = false

-- ---- which process job is left in which control job

-- there is a control job, not COMPLETED, and the process job of a name is left in it
abbrev pub has_left : List ℕ → Option ControlJob → Bool
has_left job None = false
has_left job (Some c) = owns job c

-- the process job of a name is left in the control job of a number
abbrev pub is_left_in : ℕ → List ℕ → Jobs → Bool
is_left_in number job w = has_left job (control.job_numbered number w.control.jobs)

-- ---- at every moment

-- it is left in one that is EXECUTING or PAUSED
abbrev pub IsLeftInBegun : List ℕ → Jobs → Type 0
IsLeftInBegun job w =
    (number : ℕ) × (c : ControlJob) × (control.job_numbered number w.control.jobs ≡ Some c) × (owns job c ≡ true) × (is_begun c.states.state ≡ true)

-- Each process job that isn't QUEUED is left in a control job that is EXECUTING or PAUSED, and a control job that is ending is
-- EXECUTING.
abbrev pub AreStarted : Jobs → Type 0
AreStarted w = record {
  started : (n : ℕ) (j : ProcessJob) → process.job_numbered n w.process.kept ≡ Some j → is_queued j.states.state ≡ false
      → IsLeftInBegun j.id w;
  ending : (n : ℕ) (c : ControlJob) → control.job_numbered n w.control.jobs ≡ Some c → is_ending c.states.ending ≡ true
      → state_number c.states.state ≡ 3;
}
