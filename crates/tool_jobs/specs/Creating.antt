-- Whether jobs can be created (this tool's profile, S14F9 and S16F11).
use Rattle.std.specs.Prelude.{ℕ, Bool, not, if◌then◌else◌, List, Option, Some, None, is_some}
use Rattle.std.specs.List.{list_any}
use Rattle.process_job.specs.Jobs as process
use Rattle.process_job.specs.declared.job.JobSpec.{JobSpec}
use Rattle.control_job.specs.Names.{are_named}
use Rattle.control_job.specs.Jobs as control
use Rattle.control_job.specs.Creating as creating
use Rattle.tool_jobs.specs.declared.fault.ControlFault.{ControlFault}
use Rattle.tool_jobs.specs.declared.fault.ControlFault.TheVariants.{NameTaken, NoJobs, NotThere, HasControlJob, NoSpace}
use Rattle.tool_jobs.specs.Jobs.{Jobs, owner}

-- a process job is created
abbrev pub with_process : JobSpec → Jobs → Jobs
with_process spec w = record w { process = process.with_created spec w.process }

-- a control job is created
abbrev pub with_control : List ℕ → List (List ℕ) → Bool → Jobs → Jobs
with_control name named auto w = record w { control = creating.created name named auto w.control }

-- one of the named process jobs isn't there
abbrev pub is_any_missing : List (List ℕ) → Jobs → Bool
is_any_missing named w = list_any (λ job. not (process.is_known job w.process.kept)) named

-- one of them has a control job
abbrev pub is_any_owned : List (List ℕ) → Jobs → Bool
is_any_owned named w = list_any (λ job. is_some (owner job w)) named

-- why a control job can't be created, whatever memory there is, the first of these that fits: one of the name is kept that isn't
-- COMPLETED; no process job is named, or one is named twice; one isn't there; one has a control job; 32 are kept that aren't COMPLETED
abbrev pub control_fault : List ℕ → List (List ℕ) → Jobs → Option ControlFault
control_fault name named w =
    if control.is_kept_open name w.control.jobs then Some NameTaken
    else (if not (are_named named) then Some NoJobs
    else (if is_any_missing named w then Some NotThere
    else (if is_any_owned named w then Some HasControlJob
    else (if is_some (creating.create_fault name named w.control.jobs) then Some (NoSpace control.most_jobs) else None))))
