-- A control job executes on where a command is issued: a Place to a chamber names an unfinished substrate.
use Rattle.std.proofs.Common.{◌≡◌, ℕ, ◌==◌, ◌-◌, Bool, true, false, not, ◌&&◌, if◌then◌else◌, List, [], ◌∷◌, Option, Some, None, option_map, refl, sym, ◌∙◌, ap, subst, ◌⊎◌, inl, inr}
use Rattle.gem_tables.specs.Table.{is_one_of, firing}
use Rattle.gem_ids.specs.declared.numbers.LocId.{LocId}
use Rattle.gem_ids.specs.declared.numbers.LocId.TheVariants.{Slot, Aligner, Arm, Chamber}
use Rattle.tool_tasks.specs.declared.task.Task.TheVariants as task
use Rattle.robot_moves.specs.Modules.{module_at, is_idle}
use Rattle.robot_moves.specs.Moves.{is_next, holder, free_target, best_pick, move_by, place_move, pick_move, arm_move, robot_move, align_move, aligner_move, process_move, chamber_move}
use Rattle.robot_moves.specs.declared.view.PlaceView.{PlaceView}
use Rattle.robot_moves.specs.declared.view.Move.{Move}
use Rattle.robot_moves.proofs.Giving.{move_is}
use Rattle.floor_model.specs.declared.tracked.Substrate.{Substrate}
use Rattle.floor_model.specs.Floor.{ToolFloor}
use Rattle.floor_model.specs.Views.{views, planned as plan_of}
use Rattle.floor_model.specs.Modules.{issued as given_to}
use Rattle.floor_model.specs.Machines.{floor_fired}
use Rattle.floor_model.proofs.Moves.{is_idle_module, gives}
use Rattle.floor_moves.specs.Floor as law
use Rattle.floor_moves.specs.Floor.{is_done}
use Rattle.floor_moves.specs.Effects.{issued}
use Rattle.floor_moves.proofs.Issuing.{issued-keeps}
use Rattle.place_laws.specs.Picture.{picture, loc_of, numbered, task_of}
use Rattle.place_laws.specs.Sound.{Base, Sound}
use Rattle.picture_laws.proofs.Issuing.{issuing_agrees}
use Rattle.floor_laws.proofs.IssueViews.{IsSeen, IsView, holder_seen}
use Rattle.floor_laws.proofs.IssueTargets.{IsTarget, free_target_is}
use Rattle.floor_laws.proofs.IssuePlans.{planned_may}
use Rattle.owed_laws.specs.Owed.{owed_to}
use Rattle.owed_laws.proofs.Columns.{issued-stays}
use Rattle.owed_laws.proofs.Agreeing.{agree-undisturbed, agree-owed}
use Rattle.lot_laws.specs.Lot.{IsInJob, Waits, Executes}
use Rattle.lot_laws.proofs.Standing.{on_base, undisturbed}

where_so : {A : Type 0} (b : Bool) (o : Option A) (x : A) → (if b then o else None) ≡ Some x → o ≡ Some x
where_so true o x e = e
where_so false o x e = absurd (cc)

module _ (f : ToolFloor) (b : Base f) where
  -- a Place to a chamber names an unfinished substrate
  abbrev Fits : Move → Type 0
  Fits move = (n c : ℕ) → task_of move.task f.places ≡ law.place n (law.chamber c) → law.is_finished ((picture f).processing n) ≡ false

  placed : (w : PlaceView) (move : Move) → holder Arm (views f) ≡ Some w → place_move (views f) f.modules w ≡ Some move → Fits move
  placed w move held e = of (free_target (views f) f.modules w) refl e where
    fits : (loc : LocId) → free_target (views f) f.modules w ≡ Some loc → (n c : ℕ) → law.place (numbered w.sub f.places) (loc_of loc) ≡ law.place n (law.chamber c) → law.is_finished ((picture f).processing n) ≡ false
    fits loc q n c t = by (free_target_is (views f) f.modules w loc q).0 (pair t) where
      its : (IsView f w) × (w.at ≡ Arm)
      its = holder_seen f b Arm w held

      pair : law.place (numbered w.sub f.places) (loc_of loc) ≡ law.place n (law.chamber c) → (numbered w.sub f.places ≡ n) × (loc_of loc ≡ law.chamber c)
      pair t = (cc, cc)

      by : IsTarget w loc → (numbered w.sub f.places ≡ n) × (loc_of loc ≡ law.chamber c) → law.is_finished ((picture f).processing n) ≡ false
      by (inl home) p =
          let seen : IsSeen f its.0.0 w = its.0.1 in
          let slot : loc_of loc ≡ loc_of (Slot seen.home.0 seen.home.1) = ap loc_of (home.its_own ∙ seen.home.2) in
          absurd (let z = sym slot ∙ p.1 in cc)
      by (inr (inl al)) p = absurd (let z = sym (ap loc_of al.at) ∙ p.1 in cc)
      by (inr (inr ch)) p =
          let seen : IsSeen f its.0.0 w = its.0.1 in
          let same : its.0.0 ≡ n = sym seen.number ∙ p.0 in
          subst (λ (k : ℕ). law.is_finished ((picture f).processing k) ≡ false) same (seen.finished ∙ ch.unfinished)

    of : (o : Option LocId) → free_target (views f) f.modules w ≡ o → option_map (λ (loc : LocId). move_by 1 1 (task.Place w.sub loc)) o ≡ Some move → Fits move
    of None q e = absurd (cc)
    of (Some loc) q e = let same : move_by 1 1 (task.Place w.sub loc) ≡ move = cc in subst (λ (x : Move). Fits x) same (fits loc q)

  by_robot : (move : Move) → robot_move (views f) f.modules ≡ Some move → Fits move
  by_robot move e = of (holder Arm (views f)) refl (where_so (is_idle (module_at 1 f.modules)) (arm_move (views f) f.modules (holder Arm (views f))) move e) where
    picked : (o : Option PlaceView) → option_map pick_move o ≡ Some move → Fits move
    picked None e = absurd (cc)
    picked (Some w) e = let same : pick_move w ≡ move = cc in subst (λ (x : Move). Fits x) same (λ n c t. absurd (cc))

    of : (o : Option PlaceView) → holder Arm (views f) ≡ o → arm_move (views f) f.modules o ≡ Some move → Fits move
    of (Some w) q e = placed w move q e
    of None q e = picked (best_pick (views f) f.modules) e

  by_aligner : (move : Move) → aligner_move (views f) f.modules ≡ Some move → Fits move
  by_aligner move e = of (holder Aligner (views f)) (where_so (is_idle (module_at 2 f.modules)) (align_move (holder Aligner (views f))) move e) where
    of : (o : Option PlaceView) → align_move o ≡ Some move → Fits move
    of None e = absurd (cc)
    of (Some w) e =
        let wanted : Some (move_by 2 3 (task.Align w.sub)) ≡ Some move = where_so (not w.finished && not w.aligned) (Some (move_by 2 3 (task.Align w.sub))) move e in
        let same : move_by 2 3 (task.Align w.sub) ≡ move = cc in
        subst (λ (x : Move). Fits x) same (λ n c t. absurd (cc))

  by_chamber : (k : ℕ) (move : Move) → chamber_move k (views f) f.modules ≡ Some move → Fits move
  by_chamber k move e = of (holder (Chamber (k - 2)) (views f)) (where_so (is_idle (module_at k f.modules)) (process_move k (holder (Chamber (k - 2)) (views f))) move e) where
    of : (o : Option PlaceView) → process_move k o ≡ Some move → Fits move
    of None e = absurd (cc)
    of (Some w) e =
        let wanted : Some (move_by k 4 (task.Process w.sub w.recipe)) ≡ Some move = where_so (not w.finished && is_next w (k - 2)) (Some (move_by k 4 (task.Process w.sub w.recipe))) move e in
        let same : move_by k 4 (task.Process w.sub w.recipe) ≡ move = cc in
        subst (λ (x : Move). Fits x) same (λ n c t. absurd (cc))

  pub planned_fits : (m : ℕ) (move : Move) → plan_of m f ≡ Some move → (n c : ℕ) → task_of move.task f.places ≡ law.place n (law.chamber c) → law.is_finished ((picture f).processing n) ≡ false
  planned_fits m move e = of (m == 1) (m == 2) e where
    of : (first second : Bool) → (if first then robot_move (views f) f.modules else (if second then aligner_move (views f) f.modules else chamber_move m (views f) f.modules)) ≡ Some move → Fits move
    of true second e = by_robot move e
    of false true e = by_aligner move e
    of false false e = by_chamber m move e

module _ (number : ℕ) (planned : ℕ → List (List ℕ)) (counted : ℕ → Bool) (f : ToolFloor) (h : Sound f) (e : Executes number planned counted f) where
  abbrev Keeps : ToolFloor → Type 0
  Keeps g = Executes number planned counted g × (owed_to planned counted (picture g) ≡ owed_to planned counted (picture f))

  given-executes : (m : ℕ) (o : Option Move) → plan_of m f ≡ o → Keeps (given_to m o f)
  given-executes m None q = (e, refl)
  given-executes m (Some move) q =
      let agrees = issuing_agrees m move f (is_idle_module (module_at m f.modules) (move_is m (views f) f.modules move q).idle) in
      let stays = issued-stays planned counted (picture f) (undisturbed number planned counted f (on_base f h.base) e) m (task_of move.task f.places) (planned_fits f h.base m move q) in
      let valid = issued-keeps (picture f) m (task_of move.task f.places) (planned_may f h.base h.valid m move q) h.valid in (
        record {
          steers = e.steers;
          here = e.here;
          members = e.members;
          stands = λ n x found is. by n x (e.stands n x found is);
          all = e.all;
          substrates = (agree-undisturbed (issued m (task_of move.task f.places) (picture f)) (picture (given_to m (Some move) f)) agrees counted valid stays.0).substrates;
        },
        agree-owed (issued m (task_of move.task f.places) (picture f)) (picture (given_to m (Some move) f)) agrees planned counted ∙ stays.1,
      )
    where
      by : (n : ℕ) (x : Substrate) → (is_done n (picture f) ≡ true) ⊎ (IsInJob number (planned n) x f ⊎ Waits number (planned n) x f) → (is_done n (picture f) ≡ true) ⊎ (IsInJob number (planned n) x (given_to m (Some move) f) ⊎ Waits number (planned n) x (given_to m (Some move) f))
      by n x (inl done) = inl done
      by n x (inr (inl its)) = inr (inl its)
      by n x (inr (inr w)) = inr (inr (record { at = w.at; job = w.job; kept = w.kept; left = w.left; first = w.first; goes_by = w.goes_by; queued = w.queued; joins = w.joins }))

  -- rows 1 to 4 of table 16
  pub issue-executes : (m row : ℕ) → is_one_of (1 ∷ 2 ∷ 3 ∷ 4 ∷ []) row ≡ true → Executes number planned counted (floor_fired (firing 16 m row) f) × (owed_to planned counted (picture (floor_fired (firing 16 m row) f)) ≡ owed_to planned counted (picture f))
  issue-executes m row is = subst (λ (g : ToolFloor). Executes number planned counted g × (owed_to planned counted (picture g) ≡ owed_to planned counted (picture f))) (sym (gives row m f is)) (given-executes m (plan_of m f) refl)
