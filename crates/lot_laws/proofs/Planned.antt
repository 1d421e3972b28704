-- The route that is planned for a substrate, while its control job executes: that of the first process job that names its slot, which is
-- that of its own, where it is in one.
use Rattle.std.proofs.Common.{◌≡◌, ℕ, ◌==◌, Bool, true, false, not, List, Some, sym, ◌∙◌, ap, subst, ◌⊎◌, inl, inr}
use Rattle.std.proofs.lemmas.Bool.{true≢false, and_parts}
use Rattle.std.proofs.lemmas.Bool.Decides.{Decides-eqb}
use Rattle.process_job.specs.Jobs.{JobBook, job_named, job_numbered, recipe_named}
use Rattle.process_job.specs.declared.job.ProcessJob.{ProcessJob}
use Rattle.tool_jobs.specs.Together.{AreTogether}
use Rattle.floor_model.specs.declared.tracked.Substrate.{Substrate}
use Rattle.floor_model.specs.Floor.{ToolFloor, substrate_numbered}
use Rattle.floor_moves.specs.Floor as law
use Rattle.floor_moves.specs.Floor.{is_done}
use Rattle.place_laws.specs.Picture.{picture, steps_in}
use Rattle.place_laws.specs.Sound.{Base}
use Rattle.place_laws.proofs.Routes.{route_is}
use Rattle.floor_laws.proofs.JobSight.{none_some, some_same}
use Rattle.floor_laws.proofs.JobLists.{none_first}
use Rattle.floor_laws.proofs.JobSays.{IsMember, member_tells}
use Rattle.owed_laws.specs.Undisturbed.{ArePlanned}
use Rattle.lot_laws.specs.Lot.{first_naming, route_by, IsInJob, Waits, Executes}
use Rattle.lot_laws.proofs.First.{by_name}
use Rattle.lot_laws.proofs.Standing.{joins_tell}

-- ---- routes of process jobs

-- those of one recipe have one route
pub route_same : (b : JobBook) (i j : ProcessJob) → i.recipe ≡ j.recipe → route_by b i ≡ route_by b j
route_same b i j same = ap (λ (name : List ℕ). steps_in (recipe_named name b.recipes)) same

module _ (number : ℕ) (f : ToolFloor) (t : AreTogether f.jobs) where
  -- two that are kept under one name are one
  same_named : (k m : ℕ) (i j : ProcessJob) → job_numbered k f.jobs.process.kept ≡ Some i → job_numbered m f.jobs.process.kept ≡ Some j → i.id ≡ j.id → i ≡ j
  same_named k m i j kept known same =
      some_same i j
      (sym (by_name k f.jobs.process.kept i t.process.apart kept)
      ∙ ap (λ (name : List ℕ). job_named name f.jobs.process.kept) same
      ∙ by_name m f.jobs.process.kept j t.process.apart known)

  -- the first that names the slot of one that is in it, or waits for it, has its route
  pub first_route : (route : List (List ℕ)) (x : Substrate) → IsInJob number route x f ⊎ Waits number route x f → (m : ℕ) (j : ProcessJob) → job_numbered m f.jobs.process.kept ≡ Some j
      → first_naming number f x ≡ Some j.id → route_by f.jobs.process j ≡ route
  first_route route x (inl its) m j known first = ap (route_by f.jobs.process) (same_named m x.job j its.0 known its.1 (some_same j.id its.0.id (sym first ∙ its.2))) ∙ its.3
  first_route route x (inr w) m j known first = ap (route_by f.jobs.process) (same_named m w.at j w.job known w.kept (some_same j.id w.job.id (sym first ∙ w.first))) ∙ w.goes_by

-- ---- while it executes

-- one that waits is in no process job
pub waits_free : (number : ℕ) (route : List (List ℕ)) (f : ToolFloor) → Base f → (k : ℕ) (x : Substrate) → substrate_numbered k f.substrates ≡ Some x → Waits number route x f → (picture f).jobs.is_member k ≡ true → ⊥
waits_free number route f b k x found w is =
    let m = member_tells f.substrates f.jobs k (λ j. true) is in
    let one : x ≡ m.one = some_same x m.one (sym found ∙ m.found) in
    let zero : m.one.job ≡ 0 = (Decides-eqb m.one.job 0).0 (subst (λ (y : Substrate). (y.job == 0) ≡ true) one (joins_tell w.job f x w.joins).free) in
    none_some m.job (sym (none_first f.jobs.process.given f.jobs.process.kept b.jobs.numbered) ∙ subst (λ (i : ℕ). job_numbered i f.jobs.process.kept ≡ Some m.job) zero m.its)

module _ (number : ℕ) (planned : ℕ → List (List ℕ)) (counted : ℕ → Bool) (f : ToolFloor) (b : Base f) (e : Executes number planned counted f) where
  -- the route of each unfinished one in a process job is the one that is planned for it
  pub are_planned : ArePlanned planned (picture f)
  are_planned n is unfinished = of (member_tells f.substrates f.jobs n (λ j. true) is) where
    by : (m : IsMember f.substrates f.jobs (λ j. true) n) → (is_done n (picture f) ≡ true) ⊎ (IsInJob number (planned n) m.one f ⊎ Waits number (planned n) m.one f) → (picture f).jobs.route_of n ≡ planned n
    by m (inl done) =
        absurd (true≢false (sym (and_parts (law.is_finished ((picture f).processing n)) (not (law.is_outside ((picture f).place_of n))) done).0 ∙ unfinished))
    by m (inr (inl its)) = route_is f n m.one m.found m.job m.its ∙ ap (route_by f.jobs.process) (some_same m.job its.0 (sym m.its ∙ its.1)) ∙ its.3
    by m (inr (inr w)) = absurd (waits_free number (planned n) f b n m.one m.found w is)

    of : IsMember f.substrates f.jobs (λ j. true) n → (picture f).jobs.route_of n ≡ planned n
    of m = by m (e.stands n m.one m.found (e.members n is))

-- and the route that is planned for a counted one that isn't done is that of the first that names its slot
pub planned_route : (number : ℕ) (planned : ℕ → List (List ℕ)) (counted : ℕ → Bool) (f : ToolFloor) → AreTogether f.jobs → Executes number planned counted f → (n : ℕ) (s : Substrate)
    → substrate_numbered n f.substrates ≡ Some s → counted n ≡ true → is_done n (picture f) ≡ false → (j : ProcessJob) → job_numbered j.number f.jobs.process.kept ≡ Some j → first_naming number f s ≡ Some j.id
    → route_by f.jobs.process j ≡ planned n
planned_route number planned counted f t e n s found is left j its first = of (e.stands n s found is) where
  of : (is_done n (picture f) ≡ true) ⊎ (IsInJob number (planned n) s f ⊎ Waits number (planned n) s f) → route_by f.jobs.process j ≡ planned n
  of (inl done) = absurd (true≢false (sym done ∙ left))
  of (inr how) = first_route number f t (planned n) s how j.number j its first
