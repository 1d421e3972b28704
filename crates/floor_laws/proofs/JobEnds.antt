-- What holds goes on where a process job ends: it is forgotten, and its members are in no job any more.
use Rattle.std.proofs.Common.{◌≡◌, ◌≤◌, ℕ, Bool, true, false, if◌then◌else◌, List, [], ◌∷◌, map, Some, refl, sym, ◌∙◌, ap, subst, ◌⊎◌, inl, inr, arith}
use Rattle.std.specs.List.{AllByRecursion}
use Rattle.std.proofs.lemmas.Bool.{true≢false}
use Rattle.std.proofs.lemmas.Bool.Decides.{Decides-eqb}
use Rattle.process_job.specs.Jobs.{job_numbered, change_numbered, without_numbered, fires_row, AreNumbered}
use Rattle.process_job.specs.declared.job.Material.{Material}
use Rattle.process_job.specs.declared.job.ProcessJob.{ProcessJob}
use Rattle.tool_jobs.specs.Jobs.{Jobs}
use Rattle.tool_jobs.specs.Rows.{ended}
use Rattle.floor_model.specs.declared.tracked.Substrate.{Substrate}
use Rattle.floor_model.specs.Floor.{ToolFloor, substrate_numbered}
use Rattle.floor_model.specs.Jobs.{job_of, is_member, freed, all_marked, names_carrier}
use Rattle.floor_moves.specs.Floor.{is_done}
use Rattle.place_laws.specs.Picture.{picture}
use Rattle.place_laws.specs.Sound.{IsOfJob, IsInItsJob, JobsSound, Sound}
use Rattle.floor_laws.proofs.JobSight.{none_some}
use Rattle.floor_laws.proofs.JobChanges.{IsJobAlone, marked_found}
use Rattle.floor_laws.proofs.JobSays.{behind, GoesOn, sound_on}
use Rattle.floor_laws.proofs.JobLists.{numbered_fired, fired_else, numbered_without, without_else, none_first}
use Rattle.floor_laws.proofs.JobFires.{here_before, over_before, fired_jobs}

-- what follows for each that changed
pub each_mapped : {A : Type 0} (P Q : A → Type 0) (change : A → A) (xs : List A) → ((x : A) → P x → Q (change x)) → AllByRecursion P xs → AllByRecursion Q (map change xs)
each_mapped P Q change [] next all = tt
each_mapped P Q change (x ∷ xs) next all = (next x all.0, each_mapped P Q change xs next all.1)

-- ---- a substrate whose job ended

-- it is in no job any more, or is as it was and was in another
freed_cases : (n : ℕ) (s : Substrate) → ((s.job ≡ n) × ((freed n s).job ≡ 0)) ⊎ ((s.job ≡ n → ⊥) × (freed n s ≡ s))
freed_cases n s = of (is_member n s) refl where
  of : (b : Bool) → is_member n s ≡ b → ((s.job ≡ n) × ((freed n s).job ≡ 0)) ⊎ ((s.job ≡ n → ⊥) × (freed n s ≡ s))
  of true e = inl ((Decides-eqb s.job n).0 e, ap (λ (b : Bool). (if b then record s { job = 0 } else s).job) e)
  of false e = inr ((λ same. true≢false (sym ((Decides-eqb s.job n).1 same) ∙ e)), ap (λ (b : Bool). if b then record s { job = 0 } else s) e)

-- no more than its job changes
pub freed_alone : (n : ℕ) → IsJobAlone (freed n)
freed_alone n s = of (is_member n s) where
  of : (b : Bool) → record (if b then record s { job = 0 } else s) { job = s.job } ≡ s
  of true = refl
  of false = refl

-- ---- the jobs behind

-- the row fires at the job of the number, which ends
abbrev pub ended_jobs : ℕ → ℕ → Jobs → Jobs
ended_jobs n row w = ended n (fired_jobs n row w)

module _ (f : ToolFloor) (n row : ℕ) (h : Sound f) where
  -- the jobs that are kept behind
  abbrev kept : List ProcessJob
  kept = without_numbered n (change_numbered n (fires_row row) f.jobs.process.kept)

  -- their numbers rise
  kept_numbered : AreNumbered 0 f.jobs.process.given kept
  kept_numbered = numbered_without n 0 f.jobs.process.given (change_numbered n (fires_row row) f.jobs.process.kept) (numbered_fired n row 0 f.jobs.process.given f.jobs.process.kept h.base.jobs.numbered)

  -- each other job is kept as it was
  other_kept : (k : ℕ) → (k ≡ n → ⊥) → job_numbered k kept ≡ job_numbered k f.jobs.process.kept
  other_kept k other = without_else n k other (change_numbered n (fires_row row) f.jobs.process.kept) ∙ fired_else n row k other f.jobs.process.kept

  -- one that is in a job behind was in it before
  pub was_in : (s : Substrate) (i : ProcessJob) → job_of (freed n s) (ended_jobs n row f.jobs) ≡ Some i → (freed n s ≡ s) × (job_of s f.jobs ≡ Some i)
  was_in s i e = of (freed_cases n s) where
    of : ((s.job ≡ n) × ((freed n s).job ≡ 0)) ⊎ ((s.job ≡ n → ⊥) × (freed n s ≡ s)) → (freed n s ≡ s) × (job_of s f.jobs ≡ Some i)
    of (inl t) = none_some i (sym (none_first f.jobs.process.given kept kept_numbered) ∙ sym (ap (λ (k : ℕ). job_numbered k kept) t.1) ∙ e)
    of (inr t) = (t.1, sym (other_kept s.job t.0) ∙ sym (ap (λ (x : Substrate). job_numbered x.job kept) t.1) ∙ e)

  module _ (ms : List Material) where
    -- what holds of jobs
    jobs_ended : JobsSound (behind f ms (freed n) (freed_alone n) (ended_jobs n row f.jobs))
    jobs_ended = record {
      numbered = kept_numbered;
      given = each_mapped (λ (s : Substrate). s.job ≤ f.jobs.process.given) (λ (s : Substrate). s.job ≤ f.jobs.process.given) (freed n) f.substrates (λ s less. given s less (freed_cases n s)) h.base.jobs.given;
      members = each_mapped (IsInItsJob f.shop.carriers f.jobs) (IsInItsJob (all_marked ms f.shop).carriers (ended_jobs n row f.jobs)) (freed n) f.substrates member h.base.jobs.members;
    } where
      given : (s : Substrate) → s.job ≤ f.jobs.process.given → ((s.job ≡ n) × ((freed n s).job ≡ 0)) ⊎ ((s.job ≡ n → ⊥) × (freed n s ≡ s)) → (freed n s).job ≤ f.jobs.process.given
      given s less (inl t) = let none = t.1 in omega (arith, none)
      given s less (inr t) = subst (λ (x : Substrate). x.job ≤ f.jobs.process.given) (sym t.1) less

      marked : (s : Substrate) (i : ProcessJob) → IsOfJob f.shop.carriers s i → IsOfJob (all_marked ms f.shop).carriers s i
      marked s i is = let d = marked_found ms f.shop s.carrier is.carrier is.its in record { begun = is.begun; carrier = d.0; its = d.1; named = ap (λ (name : List ℕ). names_carrier name i) d.2 ∙ is.named }

      member : (s : Substrate) → IsInItsJob f.shop.carriers f.jobs s → IsInItsJob (all_marked ms f.shop).carriers (ended_jobs n row f.jobs) (freed n s)
      member s is i e = let w = was_in s i e in subst (λ (x : Substrate). IsOfJob (all_marked ms f.shop).carriers x i) (sym w.0) (marked s i (is i w.1))

    -- each member of the job that ends is done
    module _ (done : (k : ℕ) (s : Substrate) → substrate_numbered k f.substrates ≡ Some s → s.job ≡ n → is_done k (picture f) ≡ true) where
      goes_ended : GoesOn f ms (freed n) (freed_alone n) (ended_jobs n row f.jobs)
      goes_ended = record {
        recipes = refl;
        stays = λ k s j found left its. stays k s j found left its (freed_cases n s);
        here = λ k s i found its. here_before f h.valid k s i found (was_in s i its).1;
        over = λ k s i found its over_. over_before f h.valid k s i found (was_in s i its).1 over_;
      } where
        stays : (k : ℕ) (s : Substrate) (j : ProcessJob) → substrate_numbered k f.substrates ≡ Some s → is_done k (picture f) ≡ false → job_of s f.jobs ≡ Some j → ((s.job ≡ n) × ((freed n s).job ≡ 0)) ⊎ ((s.job ≡ n → ⊥) × (freed n s ≡ s)) → (i : ProcessJob) × (job_of (freed n s) (ended_jobs n row f.jobs) ≡ Some i) × (i.recipe ≡ j.recipe)
        stays k s j found left its (inl t) = absurd (true≢false (sym (done k s found t.0) ∙ left))
        stays k s j found left its (inr t) = (j, ap (λ (x : Substrate). job_numbered x.job kept) t.1 ∙ other_kept s.job t.0 ∙ its, refl)

      pub ended_sound : Sound (behind f ms (freed n) (freed_alone n) (ended_jobs n row f.jobs))
      ended_sound = sound_on f ms (freed n) (freed_alone n) (ended_jobs n row f.jobs) h jobs_ended goes_ended
