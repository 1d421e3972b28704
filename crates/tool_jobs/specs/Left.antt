-- The number that falls at each row of a job that fires by itself, which is why the jobs come to rest.
use Rattle.std.specs.Prelude.{ℕ, ◌+◌, List, [], ◌∷◌}
use Rattle.process_job.specs.declared.record.JobState.{JobState}
use Rattle.process_job.specs.declared.record.JobState.TheVariants as process
use Rattle.process_job.specs.declared.job.ProcessJob.{ProcessJob}
use Rattle.control_job.specs.declared.record.ControlState.{ControlState}
use Rattle.control_job.specs.declared.record.ControlState.TheVariants as control
use Rattle.control_job.specs.declared.job.ControlJob.{ControlJob}
use Rattle.tool_jobs.specs.Jobs.{Jobs}

-- a process job counts 9 to 1, in the order in which it may come to its end by itself
abbrev pub state_left : JobState → ℕ
state_left process.Queued = 9
state_left process.SettingUp = 8
state_left process.WaitingForStart = 7
state_left process.Processing = 6
state_left process.Pausing = 5
state_left process.Complete = 4
state_left process.Paused = 3
state_left process.Stopping = 2
state_left process.Aborting = 1

abbrev pub process_left : List ProcessJob → ℕ
process_left [] = 0
process_left (j ∷ js) = state_left j.states.state + process_left js

-- a control job counts 4 for QUEUED, 3 for SELECTED, 2 for WAITING FOR START and 1 for EXECUTING
abbrev pub control_state_left : ControlState → ℕ
control_state_left control.Queued = 4
control_state_left control.Selected = 3
control_state_left control.WaitingForStart = 2
control_state_left control.Executing = 1
control_state_left _ = 0

abbrev pub control_left : List ControlJob → ℕ
control_left [] = 0
control_left (c ∷ cs) = control_state_left c.states.state + control_left cs

-- what is left to fire by itself
abbrev pub jobs_left : Jobs → ℕ
jobs_left w = process_left w.process.kept + control_left w.control.jobs
