-- A control job stays at work and executes on where jobs are created, where the order of the queue changes, and where a command is fetched.
use Rattle.std.proofs.Common.{◌≡◌, ◌≤◌, ℕ, if◌then◌else◌, arith, ◌+◌, ◌==◌, Bool, true, false, List, [], ◌∷◌, ◌++◌, Option, Some, None, refl, sym, ◌∙◌, ap, subst, ◌⊎◌, inl, inr}
use Rattle.std.proofs.lemmas.Bool.{true≢false}
use Rattle.robot_moves.specs.Modules.{change_module, taken}
use Rattle.process_job.specs.Jobs.{job_numbered, created}
use Rattle.process_job.specs.Creating.{create_fault}
use Rattle.process_job.specs.declared.job.JobSpec.{JobSpec}
use Rattle.process_job.specs.declared.job.ProcessJob.{ProcessJob}
use Rattle.process_job.proofs.Faults.{is_free}
use Rattle.control_job.specs.Jobs.{job_numbered as control_numbered, headed}
use Rattle.tool_jobs.specs.Jobs.{Jobs}
use Rattle.tool_jobs.specs.Creating.{with_process, with_control, control_fault}
use Rattle.tool_jobs.specs.Together.{AreTogether}
use Rattle.floor_model.specs.declared.tracked.Substrate.{Substrate}
use Rattle.floor_model.specs.Floor.{ToolFloor, with_jobs, fetched, number_of}
use Rattle.floor_moves.specs.Floor.{is_done}
use Rattle.place_laws.specs.Picture.{picture}
use Rattle.place_laws.specs.Sound.{Sound}
use Rattle.place_laws.proofs.Holding.{found_number, true_of_found}
use Rattle.floor_laws.proofs.JobSays.{IsMember, member_tells, said_there}
use Rattle.queue_laws.specs.Started.{is_left_in, AreStarted}
use Rattle.queue_laws.proofs.Lists.{one_more_back}
use Rattle.queue_laws.proofs.Steering.{created-steers, added-steers, added_left, headed-steers}
use Rattle.lot_laws.specs.Lot.{is_in_found_slot, names_slot, names_left, first_naming, IsInJob, Waits, Executes, AtWork}
use Rattle.lot_laws.proofs.First.{find_alike, named_more}
use Rattle.lot_laws.proofs.AtWork.{at_work_of, executes_by}
use Rattle.lot_laws.proofs.Steering.{left_in_kept, name_left_kept, created-works, control-works, added_same, added_names, added-works}
use Rattle.lot_laws.proofs.Going.{controls-work, controls-execute}
use Rattle.lot_laws.proofs.Answers.{places-executes}
use Rattle.lot_laws.proofs.Failing.{fetched_same}

module _ (number : ℕ) (planned : ℕ → List (List ℕ)) (counted : ℕ → Bool) (f : ToolFloor) (h : Sound f) (t : AreTogether f.jobs) (s : AreStarted f.jobs) {before : Jobs} (e : AtWork number planned counted before f) where
  -- ---- a process job is created

  module _ (spec : JobSpec) (free : create_fault spec f.jobs.process ≡ None) where
    -- one that is found before is found then
    pub more_on : (k : ℕ) (js : List ProcessJob) (j : ProcessJob) → job_numbered k js ≡ Some j → job_numbered k (js ++ created (f.jobs.process.given + 1) spec ∷ []) ≡ Some j
    more_on k [] j q = absurd (cc)
    more_on k (x ∷ xs) j q = of (x.number == k) q (more_on k xs j) where
      of : (b : Bool) → (if b then Some x else job_numbered k xs) ≡ Some j → (job_numbered k xs ≡ Some j → job_numbered k (xs ++ created (f.jobs.process.given + 1) spec ∷ []) ≡ Some j) → (if b then Some x else job_numbered k (xs ++ created (f.jobs.process.given + 1) spec ∷ [])) ≡ Some j
      of true r later = r
      of false r later = later r

    -- the new one is left in no control job
    not_left : (j : ProcessJob) → j ≡ created (f.jobs.process.given + 1) spec → is_left_in number j.id f.jobs ≡ true → ⊥
    not_left j same left = true≢false (sym (left_in_kept number before f.jobs t s e.steers spec.id (subst (λ (x : ProcessJob). is_left_in number x.id f.jobs ≡ true) same left)) ∙ (is_free spec f.jobs.process free).unknown)

    back : (k : ℕ) (j : ProcessJob) → job_numbered k (with_process spec f.jobs).process.kept ≡ Some j → is_left_in number j.id f.jobs ≡ true → job_numbered k f.jobs.process.kept ≡ Some j
    back k j q left = of (one_more_back (created (f.jobs.process.given + 1) spec) k f.jobs.process.kept j q) where
      of : (job_numbered k f.jobs.process.kept ≡ Some j) ⊎ (j ≡ created (f.jobs.process.given + 1) spec) → job_numbered k f.jobs.process.kept ≡ Some j
      of (inl r) = r
      of (inr same) = absurd (not_left j same left)

    -- no substrate is in the new one
    member_back : (n : ℕ) → IsMember f.substrates (with_process spec f.jobs) (λ j. true) n → counted n ≡ true
    member_back n m = of (one_more_back (created (f.jobs.process.given + 1) spec) m.one.job f.jobs.process.kept m.job m.its) where
      of : (job_numbered m.one.job f.jobs.process.kept ≡ Some m.job) ⊎ (m.job ≡ created (f.jobs.process.given + 1) spec) → counted n ≡ true
      of (inl r) = e.members n (said_there f.substrates f.jobs n false (λ j. true) m.one m.job m.found r)
      of (inr same) =
          let number : m.job.number ≡ m.one.job = found_number (λ (j : ProcessJob). j.number) m.one.job (f.jobs.process.kept ++ created (f.jobs.process.given + 1) spec ∷ []) m.job m.its in
          let its : m.job.number ≡ f.jobs.process.given + 1 = ap (λ (j : ProcessJob). j.number) same in
          let less : m.one.job ≤ f.jobs.process.given = true_of_found number_of n (λ (x : Substrate). x.job ≤ f.jobs.process.given) f.substrates m.one h.base.jobs.given m.found in
          absurd (omega (arith, number, its, less))

    -- the first job that names a slot is as it was
    first_on : (x : Substrate) → first_naming number (with_jobs (with_process spec f.jobs) f) x ≡ first_naming number f x
    first_on x =
        find_alike (names_slot (with_jobs (with_process spec f.jobs) f) x) (names_slot f x) (names_left (control_numbered number f.jobs.control.jobs))
        (λ name i. ap (λ (o : Option ProcessJob). is_in_found_slot o f.shop x) (named_more name f.jobs.process.kept (created (f.jobs.process.given + 1) spec) (name_left_kept number before f.jobs t s e.steers name i)))

    pub created-work : AtWork number planned counted before (with_jobs (with_process spec f.jobs) f)
    created-work = record {
      steers = created-works number before f.jobs t s e.steers spec free;
      here = λ k j q left. e.here k j (back k j q left) left;
      members = λ n is. member_back n (member_tells f.substrates (with_process spec f.jobs) n (λ j. true) is);
      stands = λ n x found is. by n x (e.stands n x found is);
      all = λ n k x j found q left can. e.all n k x j found (back k j q left) left can;
      substrates = e.substrates;
    } where
      by : (n : ℕ) (x : Substrate) → (is_done n (picture f) ≡ true) ⊎ (IsInJob number (planned n) x f ⊎ Waits number (planned n) x f) → (is_done n (picture f) ≡ true) ⊎ (IsInJob number (planned n) x (with_jobs (with_process spec f.jobs) f) ⊎ Waits number (planned n) x (with_jobs (with_process spec f.jobs) f))
      by n x (inl done) = inl done
      by n x (inr (inl its)) = inr (inl (its.0, more_on x.job f.jobs.process.kept its.0 its.1, first_on x ∙ its.2, its.3))
      by n x (inr (inr w)) = inr (inr (record { at = w.at; job = w.job; kept = more_on w.at f.jobs.process.kept w.job w.kept; left = w.left; first = first_on x ∙ w.first; goes_by = w.goes_by; queued = w.queued; joins = w.joins }))

  -- ---- a control job is created, and the order of the queue changes

  pub added-work : (name : List ℕ) (named : List (List ℕ)) (auto : Bool) → control_fault name named f.jobs ≡ None → AtWork number planned counted before (with_jobs (with_control name named auto f.jobs) f)
  added-work name named auto free =
      controls-work number planned counted f (with_control name named auto f.jobs).control (λ job. added_same number before f.jobs t s e.steers name named auto free job)
      (added_names number before f.jobs t s e.steers name named auto free) e
      (added-works number before f.jobs t s e.steers name named auto free)

  pub headed-work : (name : List ℕ) → AtWork number planned counted before (with_jobs (record f.jobs { control = headed name f.jobs.control }) f)
  headed-work name =
      controls-work number planned counted f (headed name f.jobs.control) (λ job. refl) refl e
      (control-works number before f.jobs t s e.steers (headed name f.jobs.control) e.steers.works e.steers.alone (λ job. refl))

module _ (number : ℕ) (planned : ℕ → List (List ℕ)) (counted : ℕ → Bool) (f : ToolFloor) (h : Sound f) (t : AreTogether f.jobs) (s : AreStarted f.jobs) (e : Executes number planned counted f) where
  pub created-executes : (spec : JobSpec) → create_fault spec f.jobs.process ≡ None → Executes number planned counted (with_jobs (with_process spec f.jobs) f)
  created-executes spec free =
      executes_by number planned counted (with_jobs (with_process spec f.jobs) f) (created-work number planned counted f h t s (at_work_of number planned counted f e) spec free)
      (created-steers number f.jobs t s e.steers spec free)

  pub added-executes : (name : List ℕ) (named : List (List ℕ)) (auto : Bool) → control_fault name named f.jobs ≡ None → Executes number planned counted (with_jobs (with_control name named auto f.jobs) f)
  added-executes name named auto free =
      controls-execute number planned counted f (with_control name named auto f.jobs).control (λ job. added_left number f.jobs t s e.steers name named auto free job)
      (added_names number f.jobs f.jobs t s (at_work_of number planned counted f e).steers name named auto free) t s e
      (added-steers number f.jobs t s e.steers name named auto free)

  pub headed-executes : (name : List ℕ) → Executes number planned counted (with_jobs (record f.jobs { control = headed name f.jobs.control }) f)
  headed-executes name = controls-execute number planned counted f (headed name f.jobs.control) (λ job. refl) refl t s e (headed-steers number f.jobs t s e.steers name)

-- ---- a command is fetched

pub fetched-executes : (number : ℕ) (planned : ℕ → List (List ℕ)) (counted : ℕ → Bool) (f : ToolFloor) → Executes number planned counted f → (m : ℕ) → Executes number planned counted (fetched m f)
fetched-executes number planned counted f e m = places-executes number planned counted f e f.places (change_module m taken f.modules) (λ k is. is) (record {
  here = e.substrates.here;
  finished = e.substrates.finished;
  in_slot = e.substrates.in_slot;
  to_chamber = λ k n c d g q. e.substrates.to_chamber k n c d (sym (fetched_same f m k) ∙ g) q;
  not_given = e.substrates.not_given;
})
