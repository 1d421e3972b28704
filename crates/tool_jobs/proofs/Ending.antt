-- A process job that ends, and what a call leaves.
use Rattle.std.proofs.Common.{◌≡◌, ℕ, Bool, true, false, true≢false, List, Option, Some, None, Result, Ok, Err, IfOk, IfErr, refl, sym, subst}
use Rattle.process_job.specs.Jobs as process
use Rattle.process_job.specs.Jobs.{JobBook, job_numbered, change_numbered, without_numbered}
use Rattle.process_job.specs.Tables.{JobRow, JobEffect, job_table}
use Rattle.process_job.specs.Tables as effect
use Rattle.process_job.specs.Creating.{create_fault}
use Rattle.process_job.specs.declared.job.ProcessJob.{ProcessJob}
use Rattle.process_job.specs.declared.job.JobSpec.{JobSpec}
use Rattle.process_job.specs.declared.fault.JobFault.{JobFault}
use Rattle.control_job.specs.Jobs as control
use Rattle.control_job.specs.Jobs.{JobStore}
use Rattle.control_job.specs.Creating.{created}
use Rattle.gem_tables.specs.Table.{row_of}
use Rattle.tool_jobs.specs.Jobs.{Jobs}
use Rattle.tool_jobs.specs.Rows.{ended, does_end, found_ends, process_does, found_does, process_fired}
use Rattle.tool_jobs.specs.Creating.{control_fault}
use Rattle.tool_jobs.specs.Together.{AreTogether}
use Rattle.tool_jobs.proofs.Process.{name_fired, none_fired, gone_fired, none_left}
use Rattle.tool_jobs.proofs.Together.{together_created, together_added}

-- ---- a process job ends

-- it leaves its control job, and is forgotten
pub ended_is : (number : ℕ) (j : ProcessJob) (b : JobBook) (s : JobStore) (w : Jobs) → Some j ≡ job_numbered number w.process.kept → b ≡ process.forgotten number w.process → s ≡ control.left_by j.id w.control → record { process = b; control = s } ≡ ended number w
ended_is number j b s w e f g = rw (f, g, ← e) refl

-- where there is none, nothing changes
pub ended_none : (number : ℕ) (w : Jobs) → job_numbered number w.process.kept ≡ None → w ≡ ended number w
ended_none number w e = rw (none_left number w.process.kept e, e) refl

-- it ends alike whatever row fired at it
ended_fired : (number row : ℕ) (w : Jobs) → ended number (record w { process = process.fired number row w.process }) ≡ ended number w
ended_fired number row w = by_job (job_numbered number w.process.kept) refl where
  by_job : (o : Option ProcessJob) → job_numbered number w.process.kept ≡ o → ended number (record w { process = process.fired number row w.process }) ≡ ended number w
  by_job None e = rw (none_fired number row w.process.kept e) refl
  by_job (Some j) e = rw (gone_fired number row w.process.kept, name_fired number row w.process.kept j e, e) refl

-- a row that ends it
pub fired_ends : (number row : ℕ) (w : Jobs) → found_ends (row_of job_table row) ≡ true → ended number w ≡ process_fired row number w
fired_ends number row w e = by_row (row_of job_table row) e where
  by_does : (does : JobEffect) → does_end does ≡ true → ended number w ≡ process_does does number (record w { process = process.fired number row w.process })
  by_does effect.no_more f = absurd (true≢false (sym f))
  by_does effect.makes_members f = absurd (true≢false (sym f))
  by_does effect.ends f = sym (ended_fired number row w)
  by_does effect.ends_stopped f = sym (ended_fired number row w)

  by_row : (o : Option JobRow) → found_ends o ≡ true → ended number w ≡ found_does o number (record w { process = process.fired number row w.process })
  by_row None f = absurd (true≢false (sym f))
  by_row (Some r) f = by_does r.does f

-- and one that doesn't
pub fired_stays : (number row : ℕ) (b : JobBook) (w : Jobs) → found_ends (row_of job_table row) ≡ false → b ≡ process.fired number row w.process → record w { process = b } ≡ process_fired row number w
fired_stays number row b w e g = rw g (by_row (row_of job_table row) e) where
  by_does : (does : JobEffect) → does_end does ≡ false → record w { process = process.fired number row w.process } ≡ process_does does number (record w { process = process.fired number row w.process })
  by_does effect.no_more f = refl
  by_does effect.makes_members f = refl
  by_does effect.ends f = absurd (true≢false f)
  by_does effect.ends_stopped f = absurd (true≢false f)

  by_row : (o : Option JobRow) → found_ends o ≡ false → record w { process = process.fired number row w.process } ≡ found_does o number (record w { process = process.fired number row w.process })
  by_row None f = refl
  by_row (Some r) f = by_does r.does f

-- ---- what a call leaves

pub created_by : {A : Type 0} (spec : JobSpec) (b : JobBook) (w : Jobs) (r : Result A JobFault)
    → IfOk r (λ _. b ≡ process.with_created spec w.process) → IfErr r (λ _. b ≡ w.process) → ((fault : JobFault) → create_fault spec w.process ≡ Some fault → r ≡ Err fault)
    → AreTogether w → AreTogether (record w { process = b })
created_by spec b w (Err fault) ok err refused t = subst (λ (c : JobBook). AreTogether (record w { process = c })) (sym err) t
created_by spec b w (Ok x) ok err refused t = subst (λ (c : JobBook). AreTogether (record w { process = c })) (sym ok) (together_created spec w (by_fault (create_fault spec w.process) refl) t) where
  by_fault : (o : Option JobFault) → create_fault spec w.process ≡ o → o ≡ None
  by_fault None e = refl
  by_fault (Some fault) e = let no = refused fault e in absurd (cc)

pub added_by : {A E : Type 0} (name : List ℕ) (named : List (List ℕ)) (auto : Bool) (s : JobStore) (w : Jobs) (r : Result A E)
    → control_fault name named w ≡ None → IfOk r (λ _. s ≡ created name named auto w.control) → IfErr r (λ _. s ≡ w.control)
    → AreTogether w → AreTogether (record w { control = s })
added_by name named auto s w (Err fault) e ok err t = subst (λ (c : JobStore). AreTogether (record w { control = c })) (sym err) t
added_by name named auto s w (Ok x) e ok err t = subst (λ (c : JobStore). AreTogether (record w { control = c })) (sym ok) (together_added name named auto w e t)
