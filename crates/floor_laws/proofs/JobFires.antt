-- What holds goes on where a row of a process job changes its state alone.
use Rattle.std.proofs.Common.{◌≡◌, ◌≤◌, ℕ, ◌==◌, Bool, true, false, not, ◌&&◌, ◌||◌, if◌then◌else◌, List, [], ◌∷◌, map, find, Some, refl, sym, ◌∙◌, ap, subst, ◌⊎◌, inl, inr}
use Rattle.std.specs.List.{list_all}
use Rattle.std.proofs.lemmas.Bool.{true≢false, and_parts}
use Rattle.std.proofs.lemmas.Bool.Decides.{Decides-eqb}
use Rattle.shop_floor.proofs.Apart.{all_follows}
use Rattle.substrate.specs.Record.{is_finished}
use Rattle.process_job.specs.Jobs.{fires_row, fired}
use Rattle.process_job.specs.declared.job.ProcessJob.{ProcessJob}
use Rattle.tool_jobs.specs.Jobs.{Jobs}
use Rattle.floor_model.specs.declared.tracked.Substrate.{Substrate}
use Rattle.floor_model.specs.Floor.{ToolFloor, with_jobs, substrate_numbered}
use Rattle.floor_model.specs.Substrates.{is_in_slot, is_removed}
use Rattle.floor_model.specs.Jobs.{job_of, is_member, is_done_with, is_settled}
use Rattle.floor_moves.specs.Floor.{is_done}
use Rattle.floor_moves.specs.Valid.{Valid}
use Rattle.place_laws.specs.Picture.{picture, of_one, is_complete}
use Rattle.place_laws.specs.Sound.{IsOfJob, IsInItsJob, JobsSound, Base, Sound}
use Rattle.floor_laws.proofs.JobSight.{none_some, some_same}
use Rattle.floor_laws.proofs.JobWork.{done_from}
use Rattle.floor_laws.proofs.JobChanges.{IsJobAlone, map_same}
use Rattle.floor_laws.proofs.JobSays.{said_there, behind, GoesOn, sound_on}
use Rattle.floor_laws.proofs.JobLists.{numbered_fired, fired_was, fired_on}
use Rattle.floor_laws.proofs.JobStates.{after_begun, after_complete}

-- what all pass, one that is found passes
pub all_found : {A : Type 0} (t u : A → Bool) (xs : List A) (x : A) → find t xs ≡ Some x → list_all u xs ≡ true → u x ≡ true
all_found t u [] x e all = none_some x e
all_found t u (y ∷ ys) x e all = let parts = and_parts (u y) (list_all u ys) all in of (t y) e (λ q. all_found t u ys x q parts.1) parts.0 where
  of : (b : Bool) → (if b then Some y else find t ys) ≡ Some x → (find t ys ≡ Some x → u x ≡ true) → u y ≡ true → u x ≡ true
  of true e rest first = sym (ap u (some_same y x e)) ∙ first
  of false e rest first = rest e

-- ---- what holds of members before

module _ (f : ToolFloor) (v : Valid (picture f)) (n : ℕ) (s : Substrate) (j : ProcessJob) (found : substrate_numbered n f.substrates ≡ Some s) (its : job_of s f.jobs ≡ Some j) where
  -- its carrier is NOT ACCESSED or IN ACCESS
  pub here_before : (picture f).access s.carrier ≤ 1
  here_before =
      subst (λ (c : ℕ). (picture f).access c ≤ 1) (ap (of_one 0 (λ (s : Substrate). s.carrier)) found)
      (v.members.here n (said_there f.substrates f.jobs n false (λ j. true) s j found its))

  -- it is done where its job is PROCESS COMPLETE
  pub over_before : is_complete j.states.state ≡ true → is_done n (picture f) ≡ true
  over_before e =
      v.members.complete n (said_there f.substrates f.jobs n false (λ j. true) s j found its)
      (said_there f.substrates f.jobs n false (λ j. is_complete j.states.state) s j found its ∙ e)

-- members of a job that is settled are done
pub settled_done : (f : ToolFloor) → Base f → (number : ℕ) → is_settled number f ≡ true → (n : ℕ) (s : Substrate) → substrate_numbered n f.substrates ≡ Some s → s.job ≡ number → is_done n (picture f) ≡ true
settled_done f b number settled n s found its = done_from f b n s found (member (is_member number s) ((Decides-eqb s.job number).1 its) (all_found (λ (x : Substrate). x.number == n) (is_done_with number f.places) f.substrates s found settled)) where
  member : (m : Bool) → m ≡ true → (not m || (is_finished s.states.processing && (is_in_slot s f.places || is_removed s f.places))) ≡ true → (is_finished s.states.processing && (is_in_slot s f.places || is_removed s f.places)) ≡ true
  member true is e = e
  member false is e = absurd (true≢false (sym is))

-- ---- the jobs behind a row

-- the row fires at the job of the number
abbrev pub fired_jobs : ℕ → ℕ → Jobs → Jobs
fired_jobs n row w = record w { process = fired n row w.process }

module _ (f : ToolFloor) (n row : ℕ) where
  -- a substrate in its job, which is begun, is in it behind the row
  pub fired_member : (s : Substrate) → IsInItsJob f.shop.carriers f.jobs s → IsInItsJob f.shop.carriers (fired_jobs n row f.jobs) s
  fired_member s is i e = let w = fired_was n row s.job f.jobs.process.kept i e in of w.job (is w.job w.found) w.is where
    of : (j : ProcessJob) → IsOfJob f.shop.carriers s j → (i ≡ j) ⊎ ((s.job ≡ n) × (i ≡ fires_row row j)) → IsOfJob f.shop.carriers s i
    of j its (inl same) = subst (λ (x : ProcessJob). IsOfJob f.shop.carriers s x) (sym same) its
    of j its (inr t) = subst (λ (x : ProcessJob). IsOfJob f.shop.carriers s x) (sym t.1) (record { begun = after_begun row j.states.state its.begun; carrier = its.carrier; its = its.its; named = its.named })

  -- what holds of jobs
  pub jobs_fired : JobsSound f → JobsSound (with_jobs (fired_jobs n row f.jobs) f)
  jobs_fired h = record {
    numbered = numbered_fired n row 0 f.jobs.process.given f.jobs.process.kept h.numbered;
    given = h.given;
    members = all_follows (IsInItsJob f.shop.carriers f.jobs) (IsInItsJob f.shop.carriers (fired_jobs n row f.jobs)) f.substrates fired_member h.members;
  }

-- nothing changes of a substrate
pub stays_alone : IsJobAlone (λ (s : Substrate). s)
stays_alone s = refl

module _ (f : ToolFloor) (n row : ℕ) (h : Sound f) (six : row ≡ 6 → is_settled n f ≡ true) where
  -- members stay in their jobs
  goes_fired : GoesOn f [] (λ (s : Substrate). s) stays_alone (fired_jobs n row f.jobs)
  goes_fired = record {
    recipes = refl;
    stays = λ k s j found left its. fired_on n row s.job f.jobs.process.kept j its;
    here = λ k s i found its. let w = fired_was n row s.job f.jobs.process.kept i its in here_before f h.valid k s w.job found w.found;
    over = λ k s i found its done. let w = fired_was n row s.job f.jobs.process.kept i its in over k s i found w.job w.found w.is done;
  } where
    by_row : (k : ℕ) (s : Substrate) → substrate_numbered k f.substrates ≡ Some s → (j : ProcessJob) → job_of s f.jobs ≡ Some j → s.job ≡ n → (is_complete j.states.state ≡ true) ⊎ (row ≡ 6) → is_done k (picture f) ≡ true
    by_row k s found j its same (inl done) = over_before f h.valid k s j found its done
    by_row k s found j its same (inr is) = settled_done f h.base n (six is) k s found same

    over : (k : ℕ) (s : Substrate) (i : ProcessJob) → substrate_numbered k f.substrates ≡ Some s → (j : ProcessJob) → job_of s f.jobs ≡ Some j → (i ≡ j) ⊎ ((s.job ≡ n) × (i ≡ fires_row row j)) → is_complete i.states.state ≡ true → is_done k (picture f) ≡ true
    over k s i found j its (inl same) done = over_before f h.valid k s j found its (ap (λ (x : ProcessJob). is_complete x.states.state) (sym same) ∙ done)
    over k s i found j its (inr t) done = by_row k s found j its t.0 (after_complete row j.states.state (ap (λ (x : ProcessJob). is_complete x.states.state) (sym t.1) ∙ done))

  -- a row that changes the state alone; where it is the one to PROCESS COMPLETE, each member is settled
  pub fired_sound : Sound (with_jobs (fired_jobs n row f.jobs) f)
  fired_sound =
      let same : map (λ (s : Substrate). s) f.substrates ≡ f.substrates = map_same f.substrates in
      let jobs : JobsSound (behind f [] (λ (s : Substrate). s) stays_alone (fired_jobs n row f.jobs)) = subst (λ (ss : List Substrate). JobsSound (record f { substrates = ss; jobs = fired_jobs n row f.jobs })) (sym same) (jobs_fired f n row h.base.jobs) in
      subst (λ (ss : List Substrate). Sound (record f { substrates = ss; jobs = fired_jobs n row f.jobs })) same
      (sound_on f [] (λ (s : Substrate). s) stays_alone (fired_jobs n row f.jobs) h jobs goes_fired)
