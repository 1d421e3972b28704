-- What a module is to do may be issued: rows 1 to 4 of table 16.
use Rattle.std.proofs.Common.{◌≡◌, ℕ, zero, suc, ◌==◌, ◌-◌, Bool, true, false, ◌&&◌, not, if◌then◌else◌, Option, Some, None, option_map, refl, sym, subst, arith}
use Rattle.std.proofs.lemmas.Bool.{and_parts}
use Rattle.std.proofs.lemmas.Bool.Decides.{Decides-eqb}
use Rattle.gem_ids.specs.declared.numbers.LocId.{LocId}
use Rattle.gem_ids.specs.declared.numbers.LocId.TheVariants.{Aligner, Arm, Chamber}
use Rattle.tool_tasks.specs.declared.task.Task.TheVariants as task
use Rattle.robot_moves.specs.Modules.{module_at, is_idle, chamber_module}
use Rattle.robot_moves.specs.Moves.{holder, is_next, free_target, best_pick, move_by, place_move, pick_move, arm_move, robot_move, align_move, aligner_move, process_move, chamber_move}
use Rattle.robot_moves.specs.declared.view.PlaceView.{PlaceView}
use Rattle.robot_moves.specs.declared.view.Move.{Move}
use Rattle.records.proofs.Truth.{not_true}
use Rattle.floor_model.specs.Floor.{ToolFloor}
use Rattle.floor_model.specs.Views.{views, planned}
use Rattle.floor_moves.specs.Floor.{pick, place, align, process}
use Rattle.floor_moves.specs.Valid.{Valid}
use Rattle.place_laws.specs.Picture.{picture, loc_of, task_of}
use Rattle.place_laws.specs.Sound.{Base}
use Rattle.floor_laws.proofs.IssueViews.{IsSeen, holder_seen, none_seen}
use Rattle.floor_moves.proofs.Issuing.{MayIssue}
use Rattle.floor_laws.proofs.IssueRobot.{may_place}
use Rattle.floor_laws.proofs.IssuePicks.{may_pick_best}
use Rattle.floor_laws.proofs.IssueWork.{may_align, may_process}

where_so : {A : Type 0} (b : Bool) (o : Option A) (x : A) → (if b then o else None) ≡ Some x → (b ≡ true) × (o ≡ Some x)
where_so true o x e = (refl, e)
where_so false o x e = absurd (cc)

module _ (f : ToolFloor) (b : Base f) (v : Valid (picture f)) where
  -- a move of the module of a number may be issued
  abbrev pub MayMove : ℕ → Move → Type 0
  MayMove m move = MayIssue m (task_of move.task f.places) (picture f)

  -- ---- the robot

  placed : is_idle (module_at 1 f.modules) ≡ true → (w : PlaceView) (move : Move) → holder Arm (views f) ≡ Some w → place_move (views f) f.modules w ≡ Some move → MayMove 1 move
  placed rests w move held e = of (free_target (views f) f.modules w) refl e where
    of : (o : Option LocId) → free_target (views f) f.modules w ≡ o → option_map (λ (loc : LocId). move_by 1 1 (task.Place w.sub loc)) o ≡ Some move → MayMove 1 move
    of None q e = absurd (cc)
    of (Some loc) q e =
        let its = holder_seen f b Arm w held in
        let seen : IsSeen f its.0.0 w = its.0.1 in
        let same : move_by 1 1 (task.Place w.sub loc) ≡ move = cc in
        subst (λ (x : Move). MayMove 1 x) same
        (subst (λ (n : ℕ). MayIssue 1 (place n (loc_of loc)) (picture f)) (sym seen.number) (may_place f b v rests its.0.0 w loc seen its.1 q))

  picked : is_idle (module_at 1 f.modules) ≡ true → (move : Move) → holder Arm (views f) ≡ None → option_map pick_move (best_pick (views f) f.modules) ≡ Some move → MayMove 1 move
  picked rests move free e = of (best_pick (views f) f.modules) refl e where
    of : (o : Option PlaceView) → best_pick (views f) f.modules ≡ o → option_map pick_move o ≡ Some move → MayMove 1 move
    of None q e = absurd (cc)
    of (Some w) q e =
        let its = may_pick_best f b v rests (none_seen f b Arm free) w q in
        let seen : IsSeen f its.0 w = its.1 in
        let same : pick_move w ≡ move = cc in
        subst (λ (x : Move). MayMove 1 x) same
        (subst (λ (n : ℕ). MayIssue 1 (pick n (loc_of w.at)) (picture f)) (sym seen.number) its.2)

  by_robot : (move : Move) → robot_move (views f) f.modules ≡ Some move → MayMove 1 move
  by_robot move e =
      let parts = where_so (is_idle (module_at 1 f.modules)) (arm_move (views f) f.modules (holder Arm (views f))) move e in
      of parts.0 (holder Arm (views f)) refl parts.1
    where
      of : is_idle (module_at 1 f.modules) ≡ true → (o : Option PlaceView) → holder Arm (views f) ≡ o → arm_move (views f) f.modules o ≡ Some move → MayMove 1 move
      of rests (Some w) q e = placed rests w move q e
      of rests None q e = picked rests move q e

  -- ---- the aligner

  by_aligner : (move : Move) → aligner_move (views f) f.modules ≡ Some move → MayMove 2 move
  by_aligner move e =
      let parts = where_so (is_idle (module_at 2 f.modules)) (align_move (holder Aligner (views f))) move e in
      of parts.0 (holder Aligner (views f)) refl parts.1
    where
      of : is_idle (module_at 2 f.modules) ≡ true → (o : Option PlaceView) → holder Aligner (views f) ≡ o → align_move o ≡ Some move → MayMove 2 move
      of rests None q e = absurd (cc)
      of rests (Some w) q e =
          let wanted = where_so (not w.finished && not w.aligned) (Some (move_by 2 3 (task.Align w.sub))) move e in
          let neither = and_parts (not w.finished) (not w.aligned) wanted.0 in
          let its = holder_seen f b Aligner w q in
          let seen : IsSeen f its.0.0 w = its.0.1 in
          let given : Some (move_by 2 3 (task.Align w.sub)) ≡ Some move = wanted.1 in
          let same : move_by 2 3 (task.Align w.sub) ≡ move = cc in
          subst (λ (x : Move). MayMove 2 x) same
          (subst (λ (n : ℕ). MayIssue 2 (align n) (picture f)) (sym seen.number)
          (may_align f b v its.0.0 w seen its.1 (not_true w.finished neither.0) (not_true w.aligned neither.1) rests))

  -- ---- a chamber

  by_chamber : (c : ℕ) (move : Move) → chamber_move (chamber_module c) (views f) f.modules ≡ Some move → MayMove (chamber_module c) move
  by_chamber c move e =
      let parts = where_so (is_idle (module_at (chamber_module c) f.modules)) (process_move (chamber_module c) (holder (Chamber (chamber_module c - 2)) (views f))) move e in
      of parts.0 (holder (Chamber c) (views f)) refl
      (subst (λ (d : ℕ). process_move (chamber_module c) (holder (Chamber d) (views f)) ≡ Some move) number parts.1)
    where
      number : chamber_module c - 2 ≡ c
      number = omega arith

      of : is_idle (module_at (chamber_module c) f.modules) ≡ true → (o : Option PlaceView) → holder (Chamber c) (views f) ≡ o → process_move (chamber_module c) o ≡ Some move → MayMove (chamber_module c) move
      of rests None q e = absurd (cc)
      of rests (Some w) q e =
          let wanted = where_so (not w.finished && is_next w (chamber_module c - 2)) (Some (move_by (chamber_module c) 4 (task.Process w.sub w.recipe))) move e in
          let due = and_parts (not w.finished) (is_next w (chamber_module c - 2)) wanted.0 in
          let its = holder_seen f b (Chamber c) w q in
          let seen : IsSeen f its.0.0 w = its.0.1 in
          let given : Some (move_by (chamber_module c) 4 (task.Process w.sub w.recipe)) ≡ Some move = wanted.1 in
          let same : move_by (chamber_module c) 4 (task.Process w.sub w.recipe) ≡ move = cc in
          subst (λ (x : Move). MayMove (chamber_module c) x) same
          (subst (λ (n : ℕ). MayIssue (chamber_module c) (process n) (picture f)) (sym seen.number)
          (may_process f b v its.0.0 c w seen its.1 (not_true w.finished due.0) (subst (λ (d : ℕ). is_next w d ≡ true) number due.1) rests))

  -- ---- all of them

  pub planned_may : (m : ℕ) (move : Move) → planned m f ≡ Some move → MayMove m move
  planned_may m move e = of (m == 1) (m == 2) refl refl e where
    others : (k : ℕ) → (k == 1) ≡ false → chamber_move k (views f) f.modules ≡ Some move → MayMove k move
    others zero one e = absurd (cc)
    others (suc zero) one e = absurd (cc)
    others (suc (suc c)) one e = by_chamber c move e

    of : (first second : Bool) → (m == 1) ≡ first → (m == 2) ≡ second → (if first then robot_move (views f) f.modules else (if second then aligner_move (views f) f.modules else chamber_move m (views f) f.modules)) ≡ Some move → MayMove m move
    of true second one two e = let same : m ≡ 1 = (Decides-eqb m 1).0 one in subst (λ (k : ℕ). MayMove k move) (sym same) (by_robot move e)
    of false true one two e = let same : m ≡ 2 = (Decides-eqb m 2).0 two in subst (λ (k : ℕ). MayMove k move) (sym same) (by_aligner move e)
    of false false one two e = others m one e
