-- Whether a control job can be created, and which one it replaces (this tool's profile, S14F9 and limits).
use Rattle.std.specs.Prelude.{ℕ, nat_lt, Bool, not, if◌then◌else◌, List, length, find, Option, Some, None, option_map}
use Rattle.control_job.specs.Names.{are_named}
use Rattle.control_job.specs.Jobs.{JobStore, is_open, job_named, is_kept, is_kept_open, open_count, most_jobs, forgotten, with_created}
use Rattle.control_job.specs.declared.job.ControlJob.{ControlJob}
use Rattle.control_job.specs.declared.fault.CtlFault.{CtlFault}
use Rattle.control_job.specs.declared.fault.CtlFault.TheVariants.{NameTaken, NoJobs, NoSpace}

-- why one can't be, whatever memory there is: a job of the name is kept that isn't COMPLETED; no process job is named, or one is
-- named twice; or 32 are kept that aren't COMPLETED
abbrev pub create_fault : List ℕ → List (List ℕ) → List ControlJob → Option CtlFault
create_fault name named jobs =
    if is_kept_open name jobs then Some NameTaken
    else (if are_named named then (if nat_lt (open_count jobs) most_jobs then None else Some (NoSpace most_jobs))
    else Some NoJobs)

-- the number of the oldest job that is COMPLETED
abbrev pub first_completed : List ControlJob → Option ℕ
first_completed jobs = option_map (λ j. j.number) (find (λ j. not (is_open j)) jobs)

-- the number of the job of a name
abbrev pub number_named : List ℕ → List ControlJob → Option ℕ
number_named name jobs = option_map (λ j. j.number) (job_named name jobs)

-- the number of the job that a new one of this name replaces: that of the one of the name, else where 32 are kept that of the oldest
-- that is COMPLETED
abbrev pub replaced_by : List ℕ → List ControlJob → Option ℕ
replaced_by name jobs = if is_kept name jobs then number_named name jobs else (if nat_lt (length jobs) most_jobs then None else first_completed jobs)

-- what is kept without the job of a number, where there is one
abbrev pub kept_without : Option ℕ → JobStore → JobStore
kept_without None s = s
kept_without (Some n) s = forgotten n s

-- a job is created in its place
abbrev pub created : List ℕ → List (List ℕ) → Bool → JobStore → JobStore
created name named auto s = with_created name named auto (kept_without (replaced_by name s.jobs) s)
