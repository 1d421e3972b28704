-- Each substrate is in no process job or in one that is kept: so it is as the tool begins, and behind each row of a process job.
use Rattle.std.proofs.Common.{◌≡◌, ℕ, ◌==◌, Bool, true, false, if◌then◌else◌, List, map, Option, Some, None, option_map, refl, sym, ◌∙◌, ap, subst, ◌⊎◌, inl, inr}
use Rattle.std.proofs.lemmas.Bool.{true≢false}
use Rattle.std.proofs.lemmas.Bool.Decides.{Decides-eqb}
use Rattle.gem_tables.specs.Table.{firing, row_of}
use Rattle.tool_tasks.specs.declared.recipes.Recipe.{Recipe}
use Rattle.process_job.specs.Tables as effect
use Rattle.process_job.specs.Tables.{JobRow, JobEffect, job_table}
use Rattle.process_job.specs.Jobs.{job_numbered, change_numbered as jobs_changed, without_numbered, fires_row}
use Rattle.process_job.specs.declared.job.ProcessJob.{ProcessJob}
use Rattle.tool_jobs.specs.Jobs.{Jobs}
use Rattle.tool_jobs.specs.Rows.{ended, process_does, found_does}
use Rattle.floor_model.specs.declared.tracked.Substrate.{Substrate}
use Rattle.floor_model.specs.Floor.{ToolFloor, opening, with_jobs, substrate_numbered, change_numbered}
use Rattle.floor_model.specs.Jobs.{job_of, joined, freed, can_join, job_does, found_job_does}
use Rattle.floor_model.specs.Machines.{floor_fired}
use Rattle.place_laws.specs.Sound.{Sound}
use Rattle.floor_laws.proofs.JobSight.{none_some, some_same}
use Rattle.floor_laws.proofs.JobLists.{job_number_is, fired_there, fired_else, fired_on, without_else}
use Rattle.floor_laws.proofs.JobChanges.{IsJobAlone, found_map}
use Rattle.floor_laws.proofs.JobFires.{fired_jobs}
use Rattle.floor_laws.proofs.JobJoins.{joined_alone}
use Rattle.floor_laws.proofs.JobEnds.{freed_alone}
use Rattle.lot_laws.specs.Lot.{AreInKeptJobs}
use Rattle.lot_laws.proofs.Substrates.{found_back}

pub opening-in_jobs : (ports chambers : ℕ) (recipes : List Recipe) → AreInKeptJobs (opening ports chambers recipes)
opening-in_jobs ports chambers recipes n s found = none_some s found

-- behind a change of the substrate of a number that leaves its job
pub changed-in_jobs : (f : ToolFloor) → AreInKeptJobs f → (n : ℕ) (change : Substrate → Substrate) → ((s : Substrate) → (change s).number ≡ s.number) → ((s : Substrate) → (change s).job ≡ s.job)
    → AreInKeptJobs (record f { substrates = change_numbered n change f.substrates })
changed-in_jobs f kept n change number job k y found some =
    let b = found_back n change number k f.substrates y found in of b.0 b.1 b.2
  where
    same : (x : Substrate) → ((k ≡ n) × (y ≡ change x)) ⊎ (((k == n) ≡ false) × (y ≡ x)) → y.job ≡ x.job
    same x (inl c) = ap (λ (z : Substrate). z.job) c.1 ∙ job x
    same x (inr c) = ap (λ (z : Substrate). z.job) c.1

    of : (x : Substrate) → substrate_numbered k f.substrates ≡ Some x → ((k ≡ n) × (y ≡ change x)) ⊎ (((k == n) ≡ false) × (y ≡ x)) → (j : ProcessJob) × (job_of y f.jobs ≡ Some j)
    of x was c =
        let w = kept k x was (sym (ap (λ (i : ℕ). i == 0) (same x c)) ∙ some) in
        (w.0, ap (λ (i : ℕ). job_numbered i f.jobs.process.kept) (same x c) ∙ w.1)

module _ (f : ToolFloor) (kept : AreInKeptJobs f) (h : Sound f) (n row : ℕ) where
  -- the state of a job alone
  state-in_jobs : AreInKeptJobs (with_jobs (fired_jobs n row f.jobs) f)
  state-in_jobs k s found some = let was = kept k s found some in let on = fired_on n row s.job f.jobs.process.kept was.0 was.1 in (on.0, on.1)

  mapped : (change : Substrate → Substrate) → IsJobAlone change → (v : Jobs) → ((k : ℕ) (s : Substrate) → substrate_numbered k f.substrates ≡ Some s → ((change s).job == 0) ≡ false → (j : ProcessJob) × (job_of (change s) v ≡ Some j))
      → AreInKeptJobs (record f { substrates = map change f.substrates; jobs = v })
  mapped change alone v each k y found some = of (substrate_numbered k f.substrates) refl (sym (found_map change alone k f.substrates) ∙ found) where
    of : (o : Option Substrate) → substrate_numbered k f.substrates ≡ o → option_map change o ≡ Some y → (j : ProcessJob) × (job_of y v ≡ Some j)
    of None q g = none_some y g
    of (Some s) q g =
        let same = some_same (change s) y g in
        let r = each k s q (ap (λ (z : Substrate). z.job == 0) same ∙ some) in
        (r.0, sym (ap (λ (z : Substrate). job_of z v) same) ∙ r.1)

  module _ (j : ProcessJob) (known : job_numbered n f.jobs.process.kept ≡ Some j) where
    number_is : j.number ≡ n
    number_is = (job_number_is n 0 f.jobs.process.given f.jobs.process.kept j h.base.jobs.numbered known).0

    -- members are made
    joined-in_jobs : AreInKeptJobs (record f { substrates = map (joined j f.shop) f.substrates; jobs = fired_jobs n row f.jobs })
    joined-in_jobs = mapped (joined j f.shop) (joined_alone f j) (fired_jobs n row f.jobs) (λ k s found some. of k s found some (can_join j f.shop s) refl) where
      of : (k : ℕ) (s : Substrate) → substrate_numbered k f.substrates ≡ Some s → ((joined j f.shop s).job == 0) ≡ false → (b : Bool) → can_join j f.shop s ≡ b → (i : ProcessJob) × (job_of (joined j f.shop s) (fired_jobs n row f.jobs) ≡ Some i)
      of k s found some true q =
          let its : (joined j f.shop s).job ≡ n = ap (λ (b : Bool). (if b then record s { job = j.number } else s).job) q ∙ number_is in
          (fires_row row j, ap (λ (i : ℕ). job_numbered i (jobs_changed n (fires_row row) f.jobs.process.kept)) its ∙ fired_there n row f.jobs.process.kept ∙ ap (option_map (fires_row row)) known)
      of k s found some false q =
          let same : joined j f.shop s ≡ s = ap (λ (b : Bool). if b then record s { job = j.number } else s) q in
          let r = state-in_jobs k s found (sym (ap (λ (z : Substrate). z.job == 0) same) ∙ some) in
          (r.0, ap (λ (z : Substrate). job_of z (fired_jobs n row f.jobs)) same ∙ r.1)

    -- it ends
    freed-in_jobs : AreInKeptJobs (record f { substrates = map (freed j.number) f.substrates; jobs = ended n (fired_jobs n row f.jobs) })
    freed-in_jobs =
        subst (λ (m : ℕ). AreInKeptJobs (record f { substrates = map (freed m) f.substrates; jobs = ended n (fired_jobs n row f.jobs) })) (sym number_is)
        (mapped (freed n) (freed_alone n) (ended n (fired_jobs n row f.jobs)) (λ k s found some. of k s found some (s.job == n) refl))
      where
        of : (k : ℕ) (s : Substrate) → substrate_numbered k f.substrates ≡ Some s → ((freed n s).job == 0) ≡ false → (b : Bool) → (s.job == n) ≡ b → (i : ProcessJob) × (job_of (freed n s) (ended n (fired_jobs n row f.jobs)) ≡ Some i)
        of k s found some true q = absurd (true≢false (sym (ap (λ (b : Bool). (if b then record s { job = 0 } else s).job == 0) q) ∙ some))
        of k s found some false q =
            let same : freed n s ≡ s = ap (λ (b : Bool). if b then record s { job = 0 } else s) q in
            let apart : s.job ≡ n → ⊥ = λ its. true≢false (sym ((Decides-eqb s.job n).1 its) ∙ q) in
            let was = kept k s found (sym (ap (λ (z : Substrate). z.job == 0) same) ∙ some) in (
              was.0,
              ap (λ (z : Substrate). job_numbered z.job (without_numbered n (jobs_changed n (fires_row row) f.jobs.process.kept))) same
                  ∙ without_else n s.job apart (jobs_changed n (fires_row row) f.jobs.process.kept) ∙ fired_else n row s.job apart f.jobs.process.kept ∙ was.1,
            )

  -- each row of a process job that is there
  pub process-in_jobs : (j : ProcessJob) → job_numbered n f.jobs.process.kept ≡ Some j → AreInKeptJobs (floor_fired (firing 14 n row) f)
  process-in_jobs j known = subst (λ (o : Option ProcessJob). AreInKeptJobs (with_jobs (found_does (row_of job_table row) n (fired_jobs n row f.jobs)) (found_job_does (row_of job_table row) o f))) (sym known) (of (row_of job_table row)) where
    by : (does : JobEffect) → AreInKeptJobs (with_jobs (process_does does n (fired_jobs n row f.jobs)) (job_does does (Some j) f))
    by effect.no_more = state-in_jobs
    by effect.makes_members = joined-in_jobs j known
    by effect.ends = freed-in_jobs j known
    by effect.ends_stopped = freed-in_jobs j known

    of : (o : Option JobRow) → AreInKeptJobs (with_jobs (found_does o n (fired_jobs n row f.jobs)) (found_job_does o (Some j) f))
    of None = state-in_jobs
    of (Some r) = by r.does
