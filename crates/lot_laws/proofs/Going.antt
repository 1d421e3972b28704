-- A control job stays at work where the process jobs and the jobs of substrates change.
use Rattle.std.proofs.Common.{◌≡◌, ℕ, Bool, true, false, not, ◌&&◌, List, map, find, Option, Some, None, option_map, refl, sym, ◌∙◌, ap, subst, ◌⊎◌, inl, inr}
use Rattle.substrate.specs.Tables.{processing_number}
use Rattle.process_job.specs.Jobs.{job_numbered}
use Rattle.process_job.specs.declared.job.Material.{Material}
use Rattle.process_job.specs.declared.job.ProcessJob.{ProcessJob}
use Rattle.control_job.specs.Jobs.{JobStore, job_numbered as control_numbered}
use Rattle.tool_jobs.specs.Jobs.{Jobs}
use Rattle.tool_jobs.specs.Together.{AreTogether}
use Rattle.floor_model.specs.declared.tracked.Substrate.{Substrate}
use Rattle.floor_model.specs.Floor.{ToolFloor, with_jobs, substrate_numbered}
use Rattle.floor_model.specs.Jobs.{is_material_here, job_of, can_join}
use Rattle.floor_moves.specs.Floor as law
use Rattle.floor_moves.specs.Floor.{is_done}
use Rattle.floor_moves.specs.Agree.{Agree}
use Rattle.std.specs.List.{list_all}
use Rattle.place_laws.specs.Picture.{picture, port_in, slot_in}
use Rattle.place_laws.specs.Sound.{Sound}
use Rattle.floor_laws.proofs.JobSight.{none_some, some_same}
use Rattle.floor_laws.proofs.JobChanges.{IsJobAlone, numbers_map, found_map, says_map}
use Rattle.floor_laws.proofs.JobSays.{member_tells}
use Rattle.owed_laws.specs.Owed.{owed_to}
use Rattle.owed_laws.proofs.Agreeing.{agree-undisturbed, agree-owed}
use Rattle.queue_laws.specs.Started.{is_left_in, AreStarted}
use Rattle.queue_laws.specs.Steers.{Steers}
use Rattle.lot_laws.specs.Lot.{names_slot, names_left, first_naming, IsInJob, Waits, Executes, IsAtWork, AtWork}
use Rattle.lot_laws.proofs.AtWork.{executing_works, at_work_of, executes_by}
use Rattle.lot_laws.proofs.Standing.{on_base, work-undisturbed}
use Rattle.lot_laws.proofs.Steering.{control-works}

module _ (f : ToolFloor) (change : Substrate → Substrate) (alone : IsJobAlone change) (w : Jobs) where
  -- the floor behind the change
  abbrev pub behind : ToolFloor
  behind = record f { substrates = map change f.substrates; jobs = w }

  pub processing_same : (n : ℕ) → (picture behind).processing n ≡ (picture f).processing n
  processing_same n = says_map change alone 0 (λ (s : Substrate). processing_number s.states.processing) (λ s. ap (λ (x : Substrate). processing_number x.states.processing) (alone s)) n f.substrates

  -- by numbers it says the same, but for what jobs say
  pub behind_agrees : Agree (picture f) (record (picture behind) { jobs = (picture f).jobs })
  behind_agrees = record {
    substrates = numbers_map change alone f.substrates;
    next_substrate = refl;
    carrier_of = λ n _. says_map change alone 0 (λ (s : Substrate). s.carrier) (λ s. ap (λ (x : Substrate). x.carrier) (alone s)) n f.substrates;
    port_of = λ n _. says_map change alone 0 (λ (s : Substrate). port_in s.slot) (λ s. ap (λ (x : Substrate). port_in x.slot) (alone s)) n f.substrates;
    slot_of = λ n _. says_map change alone 0 (λ (s : Substrate). slot_in s.slot) (λ s. ap (λ (x : Substrate). slot_in x.slot) (alone s)) n f.substrates;
    place_of = λ n. refl;
    processing = λ n _. processing_same n;
    is_aligned = λ n _. says_map change alone false (λ (s : Substrate). s.aligned) (λ s. ap (λ (x : Substrate). x.aligned) (alone s)) n f.substrates;
    steps_of = λ n _ _. says_map change alone 0 (λ (s : Substrate). s.steps) (λ s. ap (λ (x : Substrate). x.steps) (alone s)) n f.substrates;
    carriers = refl;
    present_at = λ c. refl;
    is_verified = λ c _. refl;
    access = λ c _. refl;
    jobs = record {
      is_member = λ n. refl;
      may_start = λ n. refl;
      is_stopping = λ n. refl;
      is_aborting = λ n. refl;
      is_complete = λ n. refl;
      route_of = λ n. refl;
      names_carrier = λ c p _. refl;
      is_marked = λ c p _. refl;
    };
    chambers = refl;
    equipment = λ m. refl;
    next_command = refl;
  }

  done_same : (n : ℕ) → is_done n (picture behind) ≡ is_done n (picture f)
  done_same n = ap (λ (p : ℕ). law.is_finished p && not (law.is_outside ((picture f).place_of n))) (processing_same n)

  -- one that is found behind was found
  pub found_before : (n : ℕ) (y : Substrate) → substrate_numbered n (map change f.substrates) ≡ Some y → (x : Substrate) × (substrate_numbered n f.substrates ≡ Some x) × (change x ≡ y)
  found_before n y e = of (substrate_numbered n f.substrates) refl (sym (found_map change alone n f.substrates) ∙ e) where
    of : (o : Option Substrate) → substrate_numbered n f.substrates ≡ o → option_map change o ≡ Some y → (x : Substrate) × (substrate_numbered n f.substrates ≡ Some x) × (change x ≡ y)
    of None q g = none_some y g
    of (Some x) q g = (x, q, some_same (change x) y g)

  -- as much is owed
  pub behind_owed : (planned : ℕ → List (List ℕ)) (counted : ℕ → Bool) → owed_to planned counted (picture behind) ≡ owed_to planned counted (picture f)
  behind_owed planned counted = agree-owed (picture f) (record (picture behind) { jobs = (picture f).jobs }) behind_agrees planned counted

  -- ---- when it stays at work

  module _ (number : ℕ) (planned : ℕ → List (List ℕ)) (counted : ℕ → Bool) (before : Jobs) where
    -- how a counted one stands
    abbrev pub Stands : ℕ → Substrate → ToolFloor → Type 0
    Stands n x g = (is_done n (picture f) ≡ true) ⊎ (IsInJob number (planned n) x g ⊎ Waits number (planned n) x g)

    -- Of the jobs it is so. What is left in it was, of the same material. Who is in a job is counted. Each counted one stands, and what a job can
    -- take that is left in it is counted.
    pub record GoesOn : Type 0 where
      pub steers : IsAtWork number before w
      pub left : (k : ℕ) (i : ProcessJob) → job_numbered k w.process.kept ≡ Some i → is_left_in number i.id w ≡ true
          → (m : ℕ) × (j : ProcessJob) × (job_numbered m f.jobs.process.kept ≡ Some j) × (is_left_in number j.id f.jobs ≡ true) × (i.material ≡ j.material)
      pub members : (n : ℕ) (x : Substrate) (i : ProcessJob) → substrate_numbered n f.substrates ≡ Some x → job_of (change x) w ≡ Some i → counted n ≡ true
      pub stands : (n : ℕ) (x : Substrate) → substrate_numbered n f.substrates ≡ Some x → counted n ≡ true → Stands n x f → Stands n (change x) behind
      pub joins : (n k : ℕ) (x : Substrate) (i : ProcessJob) → substrate_numbered n f.substrates ≡ Some x → job_numbered k w.process.kept ≡ Some i → is_left_in number i.id w ≡ true
          → can_join i f.shop (change x) ≡ true → counted n ≡ true

    pub works_on : Sound f → AtWork number planned counted before f → GoesOn → AtWork number planned counted before behind
    works_on h e goes = record {
      steers = goes.steers;
      here = λ k i kept left. let b = goes.left k i kept left in ap (λ (ms : List Material). list_all (is_material_here f.shop) ms) b.4 ∙ e.here b.0 b.1 b.2 b.3;
      members = λ n is. let m = member_tells (map change f.substrates) w n (λ j. true) is in let b = found_before n m.one m.found in goes.members n b.0 m.job b.1 (ap (λ (x : Substrate). job_of x w) b.2 ∙ m.its);
      stands = λ n y found is. let b = found_before n y found in by n y (subst (λ (x : Substrate). Stands n x behind) b.2 (goes.stands n b.0 b.1 is (e.stands n b.0 b.1 is)));
      all = λ n k y i found kept left can. let b = found_before n y found in goes.joins n k b.0 i b.1 kept left (ap (λ (x : Substrate). can_join i f.shop x) b.2 ∙ can);
      substrates = (agree-undisturbed (picture f) (record (picture behind) { jobs = (picture f).jobs }) behind_agrees counted h.valid (work-undisturbed number planned counted f (on_base f h.base) e)).substrates;
    } where
      by : (n : ℕ) (y : Substrate) → Stands n y behind → (is_done n (picture behind) ≡ true) ⊎ (IsInJob number (planned n) y behind ⊎ Waits number (planned n) y behind)
      by n y (inl done) = inl (done_same n ∙ done)
      by n y (inr rest) = inr rest

-- ---- where control jobs change

module _ (number : ℕ) (planned : ℕ → List (List ℕ)) (counted : ℕ → Bool) (f : ToolFloor) (c : JobStore) (same : (job : List ℕ) → is_left_in number job (record f.jobs { control = c }) ≡ is_left_in number job f.jobs)
    (names : names_left (control_numbered number c.jobs) ≡ names_left (control_numbered number f.jobs.control.jobs))
  where
    -- it stays at work, where the same process jobs are left in it, in their order
    pub controls-work : {before : Jobs} → AtWork number planned counted before f → IsAtWork number before (record f.jobs { control = c }) → AtWork number planned counted before (with_jobs (record f.jobs { control = c }) f)
    controls-work e steers = record {
      steers = steers;
      here = λ k j kept left. e.here k j kept (sym (same j.id) ∙ left);
      members = e.members;
      stands = λ n x found is. by n x (e.stands n x found is);
      all = λ n k x j found kept left joins. e.all n k x j found kept (sym (same j.id) ∙ left) joins;
      substrates = e.substrates;
    } where
      first : (x : Substrate) → first_naming number (with_jobs (record f.jobs { control = c }) f) x ≡ first_naming number f x
      first x = ap (find (names_slot f x)) names

      by : (n : ℕ) (x : Substrate) → (is_done n (picture f) ≡ true) ⊎ (IsInJob number (planned n) x f ⊎ Waits number (planned n) x f) → (is_done n (picture f) ≡ true) ⊎ (IsInJob number (planned n) x (with_jobs (record f.jobs { control = c }) f) ⊎ Waits number (planned n) x (with_jobs (record f.jobs { control = c }) f))
      by n x (inl done) = inl done
      by n x (inr (inl its)) = inr (inl (its.0, its.1, first x ∙ its.2, its.3))
      by n x (inr (inr w)) = inr (inr (record { at = w.at; job = w.job; kept = w.kept; left = same w.job.id ∙ w.left; first = first x ∙ w.first; goes_by = w.goes_by; queued = w.queued; joins = w.joins }))

    -- it executes on, where it steers
    pub controls-execute : AreTogether f.jobs → AreStarted f.jobs → Executes number planned counted f → Steers number (record f.jobs { control = c }) → Executes number planned counted (with_jobs (record f.jobs { control = c }) f)
    controls-execute t s e v =
        let at_work = at_work_of number planned counted f e in
        executes_by number planned counted (with_jobs (record f.jobs { control = c }) f)
        (controls-work at_work (control-works number f.jobs f.jobs t s at_work.steers c (executing_works (control_numbered number c.jobs) v.executes) v.alone same)) v
