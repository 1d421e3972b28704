-- What holds of the jobs together (this tool's profile, tables 14 and 15).
use Rattle.std.specs.Prelude.{◌≡◌, ℕ, ◌≤◌, Bool, true, not, ◌||◌, List, length, filter}
use Rattle.std.specs.List.{list_all}
use Rattle.process_job.specs.Jobs as process
use Rattle.control_job.specs.Jobs as control
use Rattle.control_job.specs.Jobs.{owns, is_open}
use Rattle.control_job.specs.Record.{is_active}
use Rattle.control_job.specs.declared.job.ControlJob.{ControlJob}
use Rattle.tool_jobs.specs.Jobs.{Jobs}

-- each process job that is left in a control job is kept
abbrev pub is_left_kept : Jobs → ControlJob → Bool
is_left_kept w c = not (is_open c) || list_all (λ job. process.is_known job w.process.kept) c.left

-- A process job that is left in a control job is kept, and belongs to no other; and one control job is active at most.
pub record AreTogether (w : Jobs) : Type 0 where
  pub process : process.AreJobs w.process
  pub control : control.AreJobs w.control
  pub kept : list_all (is_left_kept w) w.control.jobs ≡ true
  pub once : (job : List ℕ) → length (filter (owns job) w.control.jobs) ≤ 1
  pub one_active : length (filter (λ c. is_active c.states.state) w.control.jobs) ≤ 1
