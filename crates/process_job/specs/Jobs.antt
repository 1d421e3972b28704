-- The process jobs that are kept, in the order in which they were created (after SEMI E40; this tool's profile, process jobs).
use Rattle.std.specs.Prelude.{◌≡◌, ℕ, ◌+◌, ◌≤◌, ◌-◌, Bool, true, false, List, [], ◌∷◌, ◌++◌, length, find, Option, Some, None}
use Rattle.std.specs.Str.{bytes_eq}
use Rattle.tool_tasks.specs.declared.recipes.Recipe.{Recipe}
use Rattle.records.specs.Names as named
use Rattle.records.specs.Numbers as numbered
use Rattle.process_job.specs.Record.{first_record, job_starts, job_fired}
use Rattle.process_job.specs.declared.job.JobSpec.{JobSpec}
use Rattle.process_job.specs.declared.job.ProcessJob.{ProcessJob}

-- The jobs of a tool: those that are kept, in the order in which they were created; the tool's recipes; and the last
-- number of creation that was given, 0 where none was.
pub record JobBook : Type 0 where
  pub kept : List ProcessJob
  pub recipes : List Recipe
  pub given : ℕ

-- no job is kept, and none was
abbrev pub no_jobs : List Recipe → JobBook
no_jobs recipes = record { kept = []; recipes = recipes; given = 0 }

-- the recipe of a name
abbrev pub recipe_named : List ℕ → List Recipe → Option Recipe
recipe_named name recipes = find (λ r. bytes_eq r.name name) recipes

-- ---- jobs

-- the name of a job, and its number of creation
abbrev pub name_of : ProcessJob → List ℕ
name_of j = j.id

abbrev pub number_of : ProcessJob → ℕ
number_of j = j.number

-- the job has this name
abbrev pub has_name : List ℕ → ProcessJob → Bool
has_name name j = named.has_name name_of name j

-- the job of a name
abbrev pub job_named : List ℕ → List ProcessJob → Option ProcessJob
job_named name jobs = named.record_named name_of name jobs

-- a job of the name is kept
abbrev pub is_known : List ℕ → List ProcessJob → Bool
is_known name jobs = named.is_named name_of name jobs

-- the job has this number of creation
abbrev pub has_number : ℕ → ProcessJob → Bool
has_number n j = numbered.has_number number_of n j

-- the job of a number of creation
abbrev pub job_numbered : ℕ → List ProcessJob → Option ProcessJob
job_numbered n jobs = numbered.record_numbered number_of n jobs

-- a job of the number is kept
abbrev pub is_numbered : ℕ → List ProcessJob → Bool
is_numbered n jobs = numbered.is_numbered number_of n jobs

-- ---- what happens to them

-- a change of the job of a number; where there is none, nothing changes
abbrev pub change_numbered : ℕ → (ProcessJob → ProcessJob) → List ProcessJob → List ProcessJob
change_numbered n change jobs = numbered.change_numbered number_of n change jobs

-- the jobs without that of a number; the others keep their order
abbrev pub without_numbered : ℕ → List ProcessJob → List ProcessJob
without_numbered n jobs = numbered.without_numbered number_of n jobs

-- a row starts at the job, where there is one
abbrev pub starts_row : ℕ → Option ProcessJob → Bool
starts_row row None = false
starts_row row (Some j) = job_starts row j.states

-- the state of a job changes by a row
abbrev pub fires_row : ℕ → ProcessJob → ProcessJob
fires_row row j = record j { states = job_fired row j.states }

-- a row fires at the job of a number
abbrev pub fired : ℕ → ℕ → JobBook → JobBook
fired number row b = record b { kept = change_numbered number (fires_row row) b.kept }

-- the job of a number is forgotten; its number stays given
abbrev pub forgotten : ℕ → JobBook → JobBook
forgotten number b = record b { kept = without_numbered number b.kept }

-- a job that is created with this number: QUEUED, and as it was asked for
abbrev pub created : ℕ → JobSpec → ProcessJob
created number j =
    record { number = number; id = j.id; states = first_record; auto = j.auto; recipe = j.recipe; material = j.material }

-- it gets the next number, and goes behind the others
abbrev pub with_created : JobSpec → JobBook → JobBook
with_created j b = record b { kept = b.kept ++ created (b.given + 1) j ∷ []; given = b.given + 1 }

-- the most jobs that are kept (this tool's profile, limits)
abbrev pub most_jobs : ℕ
most_jobs = 64

-- how many more can be
abbrev pub space : JobBook → ℕ
space b = most_jobs - length b.kept

-- ---- rules that the jobs keep

-- each name is that of one job
abbrev pub are_named_apart : List ProcessJob → Bool
are_named_apart jobs = named.are_named_apart name_of jobs

-- their numbers rise, from behind one number to another
abbrev pub AreNumbered : ℕ → ℕ → List ProcessJob → Type 0
AreNumbered last given jobs = numbered.AreRising number_of last given jobs

-- Each name is that of one job, the numbers rise, the last that was given is the greatest of them or is past them, and there are at
-- most 64 jobs.
pub record AreJobs (b : JobBook) : Type 0 where
  pub apart : are_named_apart b.kept ≡ true
  pub numbered : AreNumbered 0 b.given b.kept
  pub few : length b.kept ≤ most_jobs
