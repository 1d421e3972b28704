-- The process jobs and the control jobs of the tool together: what belongs to what (after SEMI E40 and SEMI E94; this tool's profile,
-- tables 14 and 15). The tables are in process_job and control_job.
use Rattle.std.specs.Prelude.{ℕ, List, [], ◌∷◌, find, Option, Some, None}
use Rattle.tool_tasks.specs.declared.recipes.Recipe.{Recipe}
use Rattle.process_job.specs.Jobs as process
use Rattle.process_job.specs.Jobs.{JobBook}
use Rattle.process_job.specs.declared.job.ProcessJob.{ProcessJob}
use Rattle.control_job.specs.Jobs as control
use Rattle.control_job.specs.Jobs.{JobStore, owns}
use Rattle.control_job.specs.declared.job.ControlJob.{ControlJob}

-- the process jobs, and the control jobs with their queue
pub record Jobs : Type 0 where
  pub process : JobBook
  pub control : JobStore

-- there are none, of a tool with these recipes
abbrev pub no_jobs : List Recipe → Jobs
no_jobs recipes = record { process = process.no_jobs recipes; control = control.no_jobs }

-- ---- what belongs to what

-- the control job, not COMPLETED, that a process job belongs to
abbrev pub owner : List ℕ → Jobs → Option ControlJob
owner job w = find (owns job) w.control.jobs

-- the first of these names
abbrev pub first_name : List (List ℕ) → Option (List ℕ)
first_name [] = None
first_name (n ∷ names) = Some n

-- the process job of the first of these names
abbrev pub first_of : List (List ℕ) → Jobs → Option ProcessJob
first_of [] w = None
first_of (n ∷ names) w = process.job_named n w.process.kept

-- the first process job that is left in a control job, by the order in which it named them
abbrev pub first_left : Option ControlJob → Jobs → Option ProcessJob
first_left None w = None
first_left (Some c) w = first_of c.left w

-- that of the control job of a number
abbrev pub first_left_in : ℕ → Jobs → Option ProcessJob
first_left_in number w = first_left (control.job_numbered number w.control.jobs) w

-- ---- names

-- the name of a process job, empty where there is none
abbrev pub process_name : Option ProcessJob → List ℕ
process_name None = []
process_name (Some j) = j.id

-- the name of a control job, empty where there is none
abbrev pub control_name : Option ControlJob → List ℕ
control_name None = []
control_name (Some c) = c.name
