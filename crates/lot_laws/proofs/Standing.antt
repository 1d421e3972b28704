-- While a control job is at work, what its process jobs say of substrates stands as it does undisturbed.
use Rattle.std.proofs.Common.{◌≡◌, ℕ, ◌==◌, Bool, true, false, not, ◌&&◌, List, Option, Some, None, refl, sym, ◌∙◌, ap, ◌⊎◌, inl, inr}
use Rattle.std.specs.List.{AllByRecursion}
use Rattle.std.proofs.lemmas.Bool.{true≢false, and_parts, or_parts}
use Rattle.carrier.specs.declared.carrier.Carrier.{Carrier}
use Rattle.carrier.specs.Carriers.{carrier_numbered}
use Rattle.shop_floor.specs.Valid.{IsFloor}
use Rattle.substrate.specs.Record.{is_at_source, is_needing}
use Rattle.process_job.specs.Jobs.{job_named, job_numbered}
use Rattle.process_job.specs.declared.record.JobState.{JobState}
use Rattle.process_job.specs.declared.record.JobState.TheVariants as state
use Rattle.process_job.specs.declared.job.ProcessJob.{ProcessJob}
use Rattle.tool_jobs.specs.Jobs.{Jobs}
use Rattle.tool_jobs.specs.Together.{AreTogether}
use Rattle.floor_model.specs.declared.tracked.Substrate.{Substrate}
use Rattle.floor_model.specs.Floor.{ToolFloor, substrate_numbered, number_of}
use Rattle.floor_model.specs.Jobs.{job_of, is_job_so, names_carrier, is_any_of_carrier, is_stopping, is_aborting, can_join}
use Rattle.floor_moves.specs.Floor as law
use Rattle.floor_moves.specs.Floor.{is_done}
use Rattle.place_laws.specs.Picture.{picture, of_one, of_job}
use Rattle.place_laws.specs.Standing.{IsCarried}
use Rattle.place_laws.specs.Sound as sound
use Rattle.place_laws.specs.Sound.{IsOfJob, IsInItsJob, Base}
use Rattle.place_laws.proofs.Holding.{one_found, true_of_found}
use Rattle.floor_laws.proofs.JobSays.{IsMember, member_tells, any_found}
use Rattle.owed_laws.specs.Undisturbed.{JobsStand, Undisturbed}
use Rattle.queue_laws.specs.Started.{is_queued, is_left_in}
use Rattle.lot_laws.specs.Lot.{is_in_named_slot, first_naming, IsInJob, Waits, Executes, breaks_off, AtWork}
use Rattle.lot_laws.proofs.AtWork.{at_work_of}
use Rattle.lot_laws.proofs.Naming.{slot_names_carrier}
use Rattle.lot_laws.proofs.First.{by_name}
use Rattle.floor_laws.proofs.JobSight.{some_same}

-- ---- states

pub queued_same : (s : JobState) → is_queued s ≡ sound.is_queued s
queued_same state.Queued = refl
queued_same state.SettingUp = refl
queued_same state.WaitingForStart = refl
queued_same state.Processing = refl
queued_same state.Complete = refl
queued_same state.Pausing = refl
queued_same state.Paused = refl
queued_same state.Stopping = refl
queued_same state.Aborting = refl

-- what isn't so
pub not_so : (b : Bool) → (b ≡ true → ⊥) → b ≡ false
not_so true h = absurd (h refl)
not_so false h = refl

-- ---- who can join

-- of one that can join a job
pub record Joins (j : ProcessJob) (f : ToolFloor) (s : Substrate) : Type 0 where
  pub source : is_at_source s.states.transport ≡ true
  pub needs : is_needing s.states.processing ≡ true
  pub free : (s.job == 0) ≡ true
  pub named : is_in_named_slot j f.shop s ≡ true

pub joins_tell : (j : ProcessJob) (f : ToolFloor) (s : Substrate) → can_join j f.shop s ≡ true → Joins j f s
joins_tell j f s e =
    let outer = and_parts (is_at_source s.states.transport && is_needing s.states.processing) ((s.job == 0) && is_in_named_slot j f.shop s) e in
    let first = and_parts (is_at_source s.states.transport) (is_needing s.states.processing) outer.0 in
    let last = and_parts (s.job == 0) (is_in_named_slot j f.shop s) outer.1 in
    record { source = first.0; needs = first.1; free = last.0; named = last.1 }

-- what holds of the carriers, and of the substrates with their carriers and jobs
pub record IsCarriedOn (f : ToolFloor) : Type 0 where
  pub shop : IsFloor f.shop
  pub carried : AllByRecursion (IsCarried f.shop.carriers) f.substrates
  pub members : AllByRecursion (IsInItsJob f.shop.carriers f.jobs) f.substrates

pub on_base : (f : ToolFloor) → Base f → IsCarriedOn f
on_base f b = record { shop = b.shop; carried = b.carried; members = b.jobs.members }

-- ---- members

module _ (f : ToolFloor) (h : IsCarriedOn f) where
  -- the job of one that is in one
  pub member_job : (n : ℕ) (s : Substrate) (j : ProcessJob) → substrate_numbered n f.substrates ≡ Some s → job_of s f.jobs ≡ Some j → IsOfJob f.shop.carriers s j
  member_job n s j found its = true_of_found number_of n (IsInItsJob f.shop.carriers f.jobs) f.substrates s h.members found j its

  -- it isn't QUEUED
  pub member_begun : (n : ℕ) (s : Substrate) (j : ProcessJob) → substrate_numbered n f.substrates ≡ Some s → job_of s f.jobs ≡ Some j → is_queued j.states.state ≡ false
  member_begun n s j found its = queued_same j.states.state ∙ (member_job n s j found its).begun

  -- the carrier of one that is kept
  pub carried : (n : ℕ) (s : Substrate) → substrate_numbered n f.substrates ≡ Some s → IsCarried f.shop.carriers s
  carried n s found = true_of_found number_of n (IsCarried f.shop.carriers) f.substrates s h.carried found

  -- a process job that is kept names its carrier
  pub named_by : (n k : ℕ) (s : Substrate) (j : ProcessJob) (c : Carrier) → substrate_numbered n f.substrates ≡ Some s → job_numbered k f.jobs.process.kept ≡ Some j
      → carrier_numbered s.carrier f.shop.carriers ≡ Some c → names_carrier c.name j ≡ true → (picture f).jobs.names_carrier ((picture f).carrier_of n) ≡ true
  named_by n k s j c found kept its named =
      let which : (picture f).carrier_of n ≡ s.carrier = ap (of_one 0 (λ (x : Substrate). x.carrier)) found in
      ap (picture f).jobs.names_carrier which
      ∙ ap (of_one false (λ (x : Carrier). is_any_of_carrier x.name f.jobs)) its
      ∙ any_found _ (names_carrier c.name) f.jobs.process.kept j kept named

-- what the job of a substrate says, by numbers
pub job_said : (f : ToolFloor) (n : ℕ) (s : Substrate) → substrate_numbered n f.substrates ≡ Some s → (says : JobState → Bool)
    → is_job_so says (job_of s f.jobs) ≡ of_one false (of_job false (λ (j : ProcessJob). says j.states.state) f.jobs) (substrate_numbered n f.substrates)
job_said f n s known says = of (job_of s f.jobs) ∙ sym (ap (of_one false (of_job false (λ (j : ProcessJob). says j.states.state) f.jobs)) known) where
  of : (o : Option ProcessJob) → is_job_so says o ≡ of_one false (λ (j : ProcessJob). says j.states.state) o
  of None = refl
  of (Some j) = refl

-- ---- while it is at work

module _ (number : ℕ) (planned : ℕ → List (List ℕ)) (counted : ℕ → Bool) {before : Jobs} (f : ToolFloor) (h : IsCarriedOn f) (e : AtWork number planned counted before f) where
  -- the job of one that is in one is left in the control job
  pub work-left : (n : ℕ) (s : Substrate) (j : ProcessJob) → substrate_numbered n f.substrates ≡ Some s → job_of s f.jobs ≡ Some j → is_left_in number j.id f.jobs ≡ true
  work-left n s j found its = e.steers.started s.job j its (member_begun f h n s j found its)

  -- and isn't STOPPING or ABORTING
  member_whole : (n : ℕ) (s : Substrate) (j : ProcessJob) → substrate_numbered n f.substrates ≡ Some s → job_of s f.jobs ≡ Some j → breaks_off j.states.state ≡ false
  member_whole n s j found its = e.steers.whole s.job j its (work-left n s j found its)

  pub work-jobs : JobsStand counted (picture f)
  work-jobs = record {
    members = e.members;
    not_stopping = λ n. not_so ((picture f).jobs.is_stopping n) (λ is. stops n (member_tells f.substrates f.jobs n (λ j. is_stopping j.states.state) is));
    not_aborting = λ n. not_so ((picture f).jobs.is_aborting n) (λ is. aborts n (member_tells f.substrates f.jobs n (λ j. is_aborting j.states.state) is));
    named = λ n kept is left. let s = one_found number_of n f.substrates kept in names n s.0 s.1 left (e.stands n s.0 s.1 is);
  } where
    stops : (n : ℕ) → IsMember f.substrates f.jobs (λ j. is_stopping j.states.state) n → ⊥
    stops n m = true≢false (sym m.so ∙ (or_parts (is_stopping m.job.states.state) (is_aborting m.job.states.state) (member_whole n m.one m.job m.found m.its)).0)

    aborts : (n : ℕ) → IsMember f.substrates f.jobs (λ j. is_aborting j.states.state) n → ⊥
    aborts n m = true≢false (sym m.so ∙ (or_parts (is_stopping m.job.states.state) (is_aborting m.job.states.state) (member_whole n m.one m.job m.found m.its)).1)

    first_so : (a b : Bool) → (a && b) ≡ true → a ≡ true
    first_so true b q = refl
    first_so false b q = q

    names : (n : ℕ) (s : Substrate) → substrate_numbered n f.substrates ≡ Some s → law.is_finished ((picture f).processing n) ≡ false
        → (is_done n (picture f) ≡ true) ⊎ (IsInJob number (planned n) s f ⊎ Waits number (planned n) s f) → (picture f).jobs.names_carrier ((picture f).carrier_of n) ≡ true
    names n s found left (inl done) = absurd (true≢false (sym (first_so (law.is_finished ((picture f).processing n)) (not (law.is_outside ((picture f).place_of n))) done) ∙ left))
    names n s found left (inr (inl m)) =
        let is = member_job f h n s m.0 found m.1 in
        named_by f h n s.job s m.0 is.carrier found m.1 is.its is.named
    names n s found left (inr (inr w)) =
        let c = carried f h n s found in
        named_by f h n w.at s w.job c.0 found w.kept c.1 (slot_names_carrier w.job f.shop s c.0 h.shop c.1 (joins_tell w.job f s w.joins).named)

  pub work-undisturbed : Undisturbed counted (picture f)
  work-undisturbed = record { jobs = work-jobs; substrates = e.substrates }

-- ---- while it executes

-- a counted one that isn't done is in the first job that names its slot, or waits for it
pub first_takes : (number : ℕ) (planned : ℕ → List (List ℕ)) (counted : ℕ → Bool) (f : ToolFloor) → AreTogether f.jobs → Executes number planned counted f → (n : ℕ) (s : Substrate) → substrate_numbered n f.substrates ≡ Some s → counted n ≡ true → is_done n (picture f) ≡ false
    → (j : ProcessJob) → job_numbered j.number f.jobs.process.kept ≡ Some j → first_naming number f s ≡ Some j.id → (job_of s f.jobs ≡ Some j) ⊎ ((is_queued j.states.state ≡ true) × (can_join j f.shop s ≡ true))
first_takes number planned counted f t e n s found is left j its first = of (e.stands n s found is) where
  -- a job that is kept under the same name is that one
  same : (k : ℕ) (i : ProcessJob) → job_numbered k f.jobs.process.kept ≡ Some i → first_naming number f s ≡ Some i.id → i ≡ j
  same k i kept f_is =
      some_same i j
      (sym (by_name k f.jobs.process.kept i t.process.apart kept)
      ∙ ap (λ (name : List ℕ). job_named name f.jobs.process.kept) (some_same i.id j.id (sym f_is ∙ first))
      ∙ by_name j.number f.jobs.process.kept j t.process.apart its)

  of : (is_done n (picture f) ≡ true) ⊎ (IsInJob number (planned n) s f ⊎ Waits number (planned n) s f) → (job_of s f.jobs ≡ Some j) ⊎ ((is_queued j.states.state ≡ true) × (can_join j f.shop s ≡ true))
  of (inl done) = absurd (true≢false (sym done ∙ left))
  of (inr (inl m)) = inl (m.1 ∙ ap (λ (i : ProcessJob). Some i) (same s.job m.0 m.1 m.2))
  of (inr (inr w)) =
      let one = same w.at w.job w.kept w.first in
      inr (ap (λ (i : ProcessJob). is_queued i.states.state) (sym one) ∙ w.queued, ap (λ (i : ProcessJob). can_join i f.shop s) (sym one) ∙ w.joins)

module _ (number : ℕ) (planned : ℕ → List (List ℕ)) (counted : ℕ → Bool) (f : ToolFloor) (h : IsCarriedOn f) (e : Executes number planned counted f) where
  pub member_left : (n : ℕ) (s : Substrate) (j : ProcessJob) → substrate_numbered n f.substrates ≡ Some s → job_of s f.jobs ≡ Some j → is_left_in number j.id f.jobs ≡ true
  member_left = work-left number planned counted f h (at_work_of number planned counted f e)

  pub undisturbed : Undisturbed counted (picture f)
  undisturbed = work-undisturbed number planned counted f h (at_work_of number planned counted f e)
