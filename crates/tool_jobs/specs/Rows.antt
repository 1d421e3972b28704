-- Tables 14 and 15 at work on the jobs: which rows start, which are ready, and what they do to the jobs (after SEMI E40 and SEMI E94;
-- this tool's profile, tables 14 and 15 and settling). What they do to carriers and substrates is for the crates above.
use Rattle.std.specs.Prelude.{ℕ, Bool, true, false, Option, Some, None}
use Rattle.gem_tables.specs.Table.{row_of, may_fire, first_itself}
use Rattle.process_job.specs.Tables as effect
use Rattle.process_job.specs.Tables.{JobRow, JobEffect, job_number, job_table}
use Rattle.process_job.specs.Jobs as process
use Rattle.process_job.specs.declared.job.ProcessJob.{ProcessJob}
use Rattle.control_job.specs.Tables.{states_number, control_table}
use Rattle.control_job.specs.Jobs as control
use Rattle.control_job.specs.Jobs.{JobStore}
use Rattle.control_job.specs.declared.job.ControlJob.{ControlJob}
use Rattle.tool_jobs.specs.declared.sight.Sight.{Sight}
use Rattle.tool_jobs.specs.Jobs.{Jobs}
use Rattle.tool_jobs.specs.Wants.{process_wants, control_wants}

-- ---- table 14, process jobs

-- a row starts at a process job
abbrev pub process_starts : ℕ → Option ProcessJob → Sight → Jobs → Bool
process_starts row None sight w = false
process_starts row (Some j) sight w = may_fire job_number (λ want. process_wants want j sight w) job_table row j.states.state

-- the least row that is ready by itself at a process job
abbrev pub process_ready : Option ProcessJob → Sight → Jobs → Option ℕ
process_ready None sight w = None
process_ready (Some j) sight w = first_itself job_number (λ want. process_wants want j sight w) job_table j.states.state

-- a process job, where there is one, has left its control job
abbrev pub left_by : Option ProcessJob → JobStore → JobStore
left_by None s = s
left_by (Some j) s = control.left_by j.id s

-- the process job of a number has ended: it has left its control job and is forgotten
abbrev pub ended : ℕ → Jobs → Jobs
ended number w = record {
  process = process.forgotten number w.process;
  control = left_by (process.job_numbered number w.process.kept) w.control;
}

-- what the word of a row does to the jobs
abbrev pub process_does : JobEffect → ℕ → Jobs → Jobs
process_does effect.no_more number w = w
process_does effect.makes_members number w = w
process_does effect.ends number w = ended number w
process_does effect.ends_stopped number w = ended number w

abbrev pub found_does : Option JobRow → ℕ → Jobs → Jobs
found_does None number w = w
found_does (Some r) number w = process_does r.does number w

-- the word of a row, where there is the row, ends the job
abbrev pub does_end : JobEffect → Bool
does_end effect.no_more = false
does_end effect.makes_members = false
does_end effect.ends = true
does_end effect.ends_stopped = true

abbrev pub found_ends : Option JobRow → Bool
found_ends None = false
found_ends (Some r) = does_end r.does

-- the jobs behind a row at the process job of a number: its state, and then what the row does
abbrev pub process_fired : ℕ → ℕ → Jobs → Jobs
process_fired row number w = found_does (row_of job_table row) number (record w { process = process.fired number row w.process })

-- ---- table 15, control jobs

-- a row starts at a control job
abbrev pub control_starts : ℕ → Option ControlJob → Bool → Jobs → Bool
control_starts row None here w = false
control_starts row (Some c) here w = may_fire states_number (λ want. control_wants want c here w.control) control_table row c.states

-- the least row that is ready by itself at a control job
abbrev pub control_ready : Option ControlJob → Bool → Jobs → Option ℕ
control_ready None here w = None
control_ready (Some c) here w = first_itself states_number (λ want. control_wants want c here w.control) control_table c.states

-- the jobs behind a row at the control job of a number
abbrev pub control_fired : ℕ → ℕ → Jobs → Jobs
control_fired row number w = record w { control = control.fired_at number row w.control }
