-- The process jobs after a change: each has its own name, and their numbers rise.
use Rattle.std.proofs.Common.{◌≡◌, ℕ, ◌+◌, ◌<◌, false, List, [], ◌∷◌, ◌++◌, length, remove, refl, arith}
use Rattle.gem_tables.specs.Table.{update_at}
use Rattle.tool_tasks.specs.declared.recipes.Recipe.{Recipe}
use Rattle.records.proofs.Apart.{apart_more, apart_update, apart_removed, length_more, length_update, length_removed}
use Rattle.records.proofs.Rising.{rising_more, rising_update, rising_fewer}
use Rattle.process_job.specs.Jobs.{name_of, number_of, is_known, fires_row, AreJobs, most_jobs}
use Rattle.process_job.specs.Kept.{book_of}
use Rattle.process_job.specs.declared.job.ProcessJob.{ProcessJob}

-- there are none
pub jobs_none : (recipes : List Recipe) → AreJobs (book_of [] recipes 0)
jobs_none recipes = record { apart = refl; numbered = omega arith; few = omega arith }

-- a job that is created
pub jobs_more : (k : ProcessJob) (js : List ProcessJob) (recipes : List Recipe) (given : ℕ) → AreJobs (book_of js recipes given) → k.number ≡ given + 1 → is_known k.id js ≡ false → length js < most_jobs → AreJobs (book_of (js ++ k ∷ []) recipes (given + 1))
jobs_more k js recipes given h n e l =
    let longer = length_more k js in
    record {
      apart = apart_more name_of k js h.apart e;
      numbered = rising_more number_of 0 given (given + 1) k js h.numbered n (omega arith);
      few = omega (arith, longer, l);
    }

-- a job that a row changes
pub jobs_update : (row place : ℕ) (js : List ProcessJob) (recipes : List Recipe) (given : ℕ) → AreJobs (book_of js recipes given) → AreJobs (book_of (update_at place (fires_row row) js) recipes given)
jobs_update row place js recipes given h =
    let same = length_update (fires_row row) place js in
    let few = h.few in
    record {
      apart = apart_update name_of (fires_row row) (λ j. refl) place js h.apart;
      numbered = rising_update number_of (fires_row row) (λ j. refl) 0 given place js h.numbered;
      few = omega (arith, same, few);
    }

-- a job that is forgotten
pub jobs_fewer : (js : List ProcessJob) (place : ℕ) (recipes : List Recipe) (given : ℕ) → AreJobs (book_of js recipes given) → AreJobs (book_of (remove js place) recipes given)
jobs_fewer js place recipes given h =
    let shorter = length_removed js place in
    let few = h.few in
    record {
      apart = apart_removed name_of js place h.apart;
      numbered = rising_fewer number_of 0 given js place h.numbered;
      few = omega (arith, shorter, few);
    }
