-- The control jobs that are kept, in the order in which they were created, and the order of the queue (after SEMI E94; this tool's
-- profile, table 15).
use Rattle.std.specs.Prelude.{◌≡◌, ℕ, ◌+◌, ◌==◌, ◌≤◌, nat_le, Bool, true, false, not, ◌&&◌, if◌then◌else◌, List, [], ◌∷◌, ◌++◌, length, map, find, Option, Some, None, option_map}
use Rattle.std.specs.List.{list_any, list_all, filter}
use Rattle.gem_tables.specs.Table.{is_one_of}
use Rattle.records.specs.Names as named
use Rattle.records.specs.Numbers as numbered
use Rattle.control_job.specs.Names.{is_in, others, is_each_once}
use Rattle.control_job.specs.Record.{first_record, control_starts, control_fired, is_queued, is_active, is_completed}
use Rattle.control_job.specs.declared.job.ControlJob.{ControlJob}

-- What is kept: the jobs by creation, the order of the queue as their numbers of creation, and the last number that was given.
-- The order has every job that is kept; a job is in the queue where it is QUEUED.
pub record JobStore : Type 0 where
  pub jobs : List ControlJob
  pub order : List ℕ
  pub given : ℕ

-- no job is kept, and no number was given
abbrev pub no_jobs : JobStore
no_jobs = record { jobs = []; order = []; given = 0 }

-- ---- one job

-- the name of a job, and its number of creation
abbrev pub name_of : ControlJob → List ℕ
name_of j = j.name

abbrev pub number_of : ControlJob → ℕ
number_of j = j.number

-- the job has this name
abbrev pub has_name : List ℕ → ControlJob → Bool
has_name name j = named.has_name name_of name j

-- it isn't COMPLETED
abbrev pub is_open : ControlJob → Bool
is_open j = not (is_completed j.states.state)

-- it is in the queue
abbrev pub is_waiting : ControlJob → Bool
is_waiting j = is_queued j.states.state

-- a process job belongs to it: it isn't COMPLETED, and the process job is left in it
abbrev pub owns : List ℕ → ControlJob → Bool
owns job j = is_open j && is_in job j.left

-- ---- which job

-- the job of a name
abbrev pub job_named : List ℕ → List ControlJob → Option ControlJob
job_named name jobs = named.record_named name_of name jobs

-- the job of a number of creation
abbrev pub job_numbered : ℕ → List ControlJob → Option ControlJob
job_numbered n jobs = numbered.record_numbered number_of n jobs

-- the number of the QUEUED job of a name
abbrev pub waiting_named : List ℕ → List ControlJob → Option ℕ
waiting_named name jobs = option_map (λ j. j.number) (find (λ j. has_name name j && is_waiting j) jobs)

-- a job of this name is kept
abbrev pub is_kept : List ℕ → List ControlJob → Bool
is_kept name jobs = named.is_named name_of name jobs

-- a job of this name is kept that isn't COMPLETED
abbrev pub is_kept_open : List ℕ → List ControlJob → Bool
is_kept_open name jobs = list_any (λ j. has_name name j && is_open j) jobs

-- a job is active
abbrev pub is_any_active : List ControlJob → Bool
is_any_active jobs = list_any (λ j. is_active j.states.state) jobs

-- the job of a number is QUEUED
abbrev pub is_waiting_numbered : List ControlJob → ℕ → Bool
is_waiting_numbered jobs n = list_any (λ j. (j.number == n) && is_waiting j) jobs

-- the number of the first QUEUED job in the queue's order
abbrev pub first_waiting : JobStore → Option ℕ
first_waiting s = find (is_waiting_numbered s.jobs) s.order

-- the number of the control job that a process job belongs to
abbrev pub owner_of : List ℕ → List ControlJob → Option ℕ
owner_of job jobs = option_map (λ j. j.number) (find (owns job) jobs)

-- how many jobs aren't COMPLETED
abbrev pub open_count : List ControlJob → ℕ
open_count jobs = length (filter is_open jobs)

-- the most jobs that are kept (this tool's profile, limits)
abbrev pub most_jobs : ℕ
most_jobs = 32

-- ---- the order of the queue

-- the order without a number
abbrev pub order_without : ℕ → List ℕ → List ℕ
order_without n order = filter (λ m. not (m == n)) order

-- a number goes first, or last; the others keep their order
abbrev pub put_first : ℕ → List ℕ → List ℕ
put_first n order = n ∷ order_without n order

abbrev pub put_last : ℕ → List ℕ → List ℕ
put_last n order = order_without n order ++ n ∷ []

-- how many times the order has a number
abbrev pub order_count : ℕ → List ℕ → ℕ
order_count n order = length (filter (λ m. m == n) order)

-- ---- what happens to them

-- the process jobs that are left behind a row: none behind row 9, which frees them where it starts
abbrev pub left_behind : ℕ → ControlJob → List (List ℕ)
left_behind row j = if (row == 9) && control_starts row j.states then [] else j.left

-- the states of a job change by a row
abbrev pub fires_row : ℕ → ControlJob → ControlJob
fires_row row j = record j { states = control_fired row j.states; left = left_behind row j }

-- the row starts at the job, where there is one
abbrev pub starts_row : ℕ → Option ControlJob → Bool
starts_row row None = false
starts_row row (Some j) = control_starts row j.states

-- the job of a number changes by a row, and another one stays
abbrev pub fires_at : ℕ → ℕ → ControlJob → ControlJob
fires_at n row j = if j.number == n then fires_row row j else j

-- a row at the job of a number: its states change, and by row 10 it goes last in the queue's order
abbrev pub fired_at : ℕ → ℕ → JobStore → JobStore
fired_at n row s = record s {
  jobs = map (fires_at n row) s.jobs;
  order = if (row == 10) && starts_row row (job_numbered n s.jobs) then put_last n s.order else s.order;
}

-- a process job leaves a control job that it belongs to
abbrev pub leaves : List ℕ → ControlJob → ControlJob
leaves job j = if owns job j then record j { left = others job j.left } else j

-- a process job leaves its control job
abbrev pub left_by : List ℕ → JobStore → JobStore
left_by job s = record s { jobs = map (leaves job) s.jobs }

-- a number goes first, where there is one
abbrev pub order_headed : Option ℕ → List ℕ → List ℕ
order_headed None order = order
order_headed (Some n) order = put_first n order

-- the QUEUED job of a name goes first in the queue's order
abbrev pub headed : List ℕ → JobStore → JobStore
headed name s = record s { order = order_headed (waiting_named name s.jobs) s.order }

-- the job of a number isn't kept any more
abbrev pub jobs_without : ℕ → List ControlJob → List ControlJob
jobs_without n jobs = filter (λ j. not (numbered.has_number number_of n j)) jobs

abbrev pub forgotten : ℕ → JobStore → JobStore
forgotten n s = record s { jobs = jobs_without n s.jobs; order = order_without n s.order }

-- a job as it is created with this number: it is QUEUED, and each process job that it names is left in it
abbrev pub new_job : ℕ → List ℕ → List (List ℕ) → Bool → ControlJob
new_job number name named auto =
    record { number = number; name = name; states = first_record; auto = auto; named = named; left = named }

-- a job is behind the others, last in the queue's order, and its number is the last that was given
abbrev pub added : ControlJob → JobStore → JobStore
added j s = record { jobs = s.jobs ++ j ∷ []; order = s.order ++ j.number ∷ []; given = j.number }

-- a job is created with the next number
abbrev pub with_created : List ℕ → List (List ℕ) → Bool → JobStore → JobStore
with_created name named auto s = added (new_job (s.given + 1) name named auto) s

-- ---- rules that they keep

-- the names of the jobs, and their numbers
abbrev pub names_of : List ControlJob → List (List ℕ)
names_of jobs = map name_of jobs

abbrev pub numbers_of : List ControlJob → List ℕ
numbers_of jobs = map number_of jobs

-- each number stands once
abbrev pub are_apart : List ℕ → Bool
are_apart [] = true
are_apart (n ∷ ns) = not (is_one_of ns n) && are_apart ns

-- the numbers rise, from behind one number to another
abbrev pub AreRising : ℕ → ℕ → List ℕ → Type 0
AreRising last given numbers = numbered.AreRising (λ n. n) last given numbers

-- Each name is that of one job, the numbers rise up to the last that was given, at most 32 jobs are kept, and the queue's order
-- has each of them once, and as many numbers as there are jobs, all of which were given.
pub record AreJobs (s : JobStore) : Type 0 where
  pub named_apart : is_each_once (names_of s.jobs) ≡ true
  pub rising : AreRising 0 s.given (numbers_of s.jobs)
  pub few : length s.jobs ≤ most_jobs
  pub ordered : list_all (is_one_of s.order) (numbers_of s.jobs) ≡ true
  pub once : are_apart s.order ≡ true
  pub as_many : length s.order ≡ length s.jobs
  pub were_given : list_all (λ n. nat_le n s.given) s.order ≡ true
