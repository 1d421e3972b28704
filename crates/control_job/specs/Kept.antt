-- How the jobs are kept.
use Rattle.std.specs.Prelude.{◌≤◌, ℕ, List}
use Rattle.records.specs.Stock.{Stock}
use Rattle.control_job.specs.Jobs.{JobStore, AreJobs, most_jobs}
use Rattle.control_job.specs.declared.job.ControlJob.{ControlJob}

-- what is kept, as one
abbrev pub store_of : List ControlJob → List ℕ → ℕ → JobStore
store_of jobs order given = record { jobs = jobs; order = order; given = given }

-- what is always true of it: there is room for all jobs and all their numbers
pub record AreKept (book : Stock ControlJob) (order : List ℕ) (given order_holds : ℕ) : Type 0 where
  pub store : AreJobs (store_of book.kept order given)
  pub job_room : most_jobs ≤ book.room
  pub order_room : most_jobs ≤ order_holds
