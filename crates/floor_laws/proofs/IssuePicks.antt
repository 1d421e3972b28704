-- What the robot is to pick fits the places: row 2 of table 16 may be issued.
use Rattle.std.proofs.Common.{◌≡◌, ℕ, Bool, true, false, ◌||◌, ◌&&◌, not, List, Option, Some, None, is_some, refl, sym, ◌∙◌, ap, subst}
use Rattle.std.proofs.lemmas.Bool.{and_parts}
use Rattle.gem_ids.specs.declared.numbers.LocId.{LocId}
use Rattle.gem_ids.specs.declared.numbers.LocId.TheVariants.{Slot, Aligner, Arm, Chamber}
use Rattle.gem_ids.specs.declared.numbers.PortNo.{PortNo}
use Rattle.gem_ids.specs.declared.numbers.SlotNo.{SlotNo}
use Rattle.robot_moves.specs.Modules.{module_at, is_idle, chamber_module as chamber_number}
use Rattle.robot_moves.specs.Moves.{free_target, may_leave, is_next, is_useful, best_pick}
use Rattle.robot_moves.specs.declared.module.Module.{Module}
use Rattle.robot_moves.specs.declared.view.PlaceView.{PlaceView}
use Rattle.robot_moves.proofs.Best.{best_is}
use Rattle.substrate.specs.Locations.{is_same}
use Rattle.records.proofs.Truth.{not_true}
use Rattle.floor_model.specs.Floor.{ToolFloor}
use Rattle.floor_model.specs.Views.{views}
use Rattle.floor_moves.specs.Floor.{Loc, slot, aligner, arm, chamber, pick, Command, idle, busy, is_outside, is_finished, chamber_module}
use Rattle.floor_moves.specs.Valid.{Empty, IsThrough, PickStands, IsUnnamed, Valid}
use Rattle.place_laws.specs.Picture.{picture, loc_of}
use Rattle.place_laws.specs.Sound.{Base}
use Rattle.floor_laws.proofs.IssueViews.{IsSeen, view_seen}
use Rattle.floor_laws.proofs.IssueTargets.{idle_seen, module_within, room_seen}
use Rattle.floor_moves.proofs.Issuing.{MayIssue}
use Rattle.floor_laws.proofs.IssueRobot.{unnamed_by, idle_not_busy, one_place}

-- ---- what may leave, by its place

-- in a slot it is unfinished and may start; at the aligner, which is Idle, it is finished or aligned; in a chamber, which is Idle, it
-- is finished, or that isn't in its next step; it is not on the arm
pub record Leaves (ms : List Module) (w : PlaceView) (at : LocId) : Type 0 where
  pub from_slot : (p : PortNo) (k : SlotNo) → at ≡ Slot p k → (w.finished ≡ false) × (w.may_start ≡ true)
  pub from_aligner : at ≡ Aligner → (is_idle (module_at 2 ms) ≡ true) × ((w.finished || w.aligned) ≡ true)
  pub from_chamber : (c : ℕ) → at ≡ Chamber c → (is_idle (module_at (chamber_number c) ms) ≡ true) × ((w.finished || not (is_next w c)) ≡ true)
  pub not_arm : at ≡ Arm → ⊥

leaves : (ms : List Module) (w : PlaceView) (at : LocId) → may_leave at ms w ≡ true → Leaves ms w at
leaves ms w (Slot p k) e =
    let parts = and_parts (is_same (Slot p k) w.slot && not w.finished) w.may_start e in
    let first = and_parts (is_same (Slot p k) w.slot) (not w.finished) parts.0 in
    record {
      from_slot = λ q j is. (not_true w.finished first.1, parts.1);
      from_aligner = λ is. absurd (cc);
      from_chamber = λ c is. absurd (cc);
      not_arm = λ is. cc;
    }
leaves ms w Aligner e = record {
  from_slot = λ q j is. absurd (cc);
  from_aligner = λ is. and_parts (is_idle (module_at 2 ms)) (w.finished || w.aligned) e;
  from_chamber = λ c is. absurd (cc);
  not_arm = λ is. cc;
}
leaves ms w Arm e = absurd (cc)
leaves ms w (Chamber c) e = record {
  from_slot = λ q j is. absurd (cc);
  from_aligner = λ is. absurd (cc);
  from_chamber = λ d is. subst (λ (i : ℕ). (is_idle (module_at (chamber_number i) ms) ≡ true) × ((w.finished || not (is_next w i)) ≡ true)) (same d is) (and_parts (is_idle (module_at (chamber_number c) ms)) (w.finished || not (is_next w c)) e);
  not_arm = λ is. cc;
} where
  same : (d : ℕ) → Chamber c ≡ Chamber d → c ≡ d
  same d is = cc

-- what isn't finished is through with what isn't its next
no_more : (finished next : Bool) → finished ≡ false → (finished || not next) ≡ true → next ≡ false
no_more true next e is = absurd (cc)
no_more false next e is = not_true next is

-- what is something is this
is_this : {A : Type 0} (o : Option A) → is_some o ≡ true → (x : A) × (o ≡ Some x)
is_this (Some x) e = (x, refl)
is_this None e = absurd (cc)

module _ (f : ToolFloor) (b : Base f) (v : Valid (picture f)) (rests : is_idle (module_at 1 f.modules) ≡ true) (none : Empty arm (picture f)) where
  -- the robot is idle by numbers
  robot_idle : (picture f).equipment 1 ≡ idle
  robot_idle = idle_seen f b 1 rests

  -- who may leave is in a job
  leaving_member : (n : ℕ) (w : PlaceView) (at : LocId) → IsSeen f n w → w.at ≡ at → Leaves f.modules w at → (picture f).jobs.is_member n ≡ true
  leaving_member n w (Slot p k) s e l = v.members.starting n (s.starts ∙ (l.from_slot p k refl).1)
  leaving_member n w Aligner s e l = v.members.outside n (ap is_outside (s.at ∙ ap (λ (x : LocId). Some (loc_of x)) e))
  leaving_member n w Arm s e l = absurd (l.not_arm refl)
  leaving_member n w (Chamber c) s e l = v.members.outside n (ap is_outside (s.at ∙ ap (λ (x : LocId). Some (loc_of x)) e))

  -- what may leave is picked where it stands
  pick_stands : (n : ℕ) (w : PlaceView) (loc at : LocId) → IsSeen f n w → w.at ≡ at → Leaves f.modules w at → free_target (views f) f.modules w ≡ Some loc → PickStands 1 n (loc_of at) (picture f)
  pick_stands n w loc at s e l target = record {
    robot = refl;
    stands = s.at ∙ ap (λ (x : LocId). Some (loc_of x)) e;
    free = none;
    room = room_seen f b n w loc s (leaving_member n w at s e l) target;
    from_slot = slot_of at l;
    from_aligner = aligner_of at l;
    from_chamber = chamber_of at e l;
    not_arm = arm_of at l;
  } where
    slot_of : (x : LocId) → Leaves f.modules w x → (p k : ℕ) → loc_of x ≡ slot p k → is_finished ((picture f).processing n) ≡ false
    slot_of (Slot p k) l i j is = s.finished ∙ (l.from_slot p k refl).0
    slot_of _ l i j is = absurd (cc)

    aligner_of : (x : LocId) → Leaves f.modules w x → loc_of x ≡ aligner → (is_finished ((picture f).processing n) || (picture f).is_aligned n) ≡ true
    aligner_of (Slot p k) l is = absurd (cc)
    aligner_of Aligner l is =
        ap (λ (t : Bool). t || (picture f).is_aligned n) s.finished ∙ ap (λ (t : Bool). w.finished || t) s.aligned ∙ (l.from_aligner refl).1
    aligner_of Arm l is = absurd (cc)
    aligner_of (Chamber c) l is = absurd (cc)

    chamber_of : (x : LocId) → w.at ≡ x → Leaves f.modules w x → (c : ℕ) → loc_of x ≡ chamber c → IsThrough n c (picture f)
    chamber_of (Chamber c) e l d is unfinished =
        let same : c ≡ d = cc in
        let member = leaving_member n w (Chamber c) s e l in
        s.next member d ∙ no_more w.finished (is_next w d) (sym s.finished ∙ unfinished) (subst (λ (i : ℕ). (w.finished || not (is_next w i)) ≡ true) same (l.from_chamber c refl).1)
    chamber_of _ e l d is unfinished = absurd (cc)

    arm_of : (x : LocId) → Leaves f.modules w x → loc_of x ≡ arm → ⊥
    arm_of (Slot p k) l is = cc
    arm_of Aligner l is = cc
    arm_of Arm l is = l.not_arm refl
    arm_of (Chamber c) l is = cc

  -- nobody else names it
  leaving_unnamed : (n : ℕ) (w : PlaceView) (at : LocId) → IsSeen f n w → w.at ≡ at → Leaves f.modules w at → IsUnnamed n (picture f)
  leaving_unnamed n w at s e l =
      unnamed_by (picture f) v n
      (λ m from c open_ t. idle_not_busy (picture f) 1 m c robot_idle t.robot open_)
      (λ m to c open_ t. idle_not_busy (picture f) 1 m c robot_idle t.robot open_)
      (λ m c open_ t. at_aligner at l (one_place (picture f) n (loc_of at) aligner here t.stands) m c open_ t.its_module)
      (λ m c open_ t. in_chamber at l t.0 (one_place (picture f) n (loc_of at) (chamber t.0) here t.2) m c open_ t.1)
    where
      here : (picture f).place_of n ≡ Some (loc_of at)
      here = s.at ∙ ap (λ (x : LocId). Some (loc_of x)) e

      at_aligner : (x : LocId) → Leaves f.modules w x → loc_of x ≡ aligner → (m : ℕ) (c : Command) → (picture f).equipment m ≡ busy c → m ≡ 2 → ⊥
      at_aligner (Slot p k) l is m c open_ its = cc
      at_aligner Aligner l is m c open_ its = idle_not_busy (picture f) 2 m c (idle_seen f b 2 (l.from_aligner refl).0) its open_
      at_aligner Arm l is m c open_ its = cc
      at_aligner (Chamber d) l is m c open_ its = cc

      in_chamber : (x : LocId) → Leaves f.modules w x → (d : ℕ) → loc_of x ≡ chamber d → (m : ℕ) (c : Command) → (picture f).equipment m ≡ busy c → m ≡ chamber_module d → ⊥
      in_chamber (Slot p k) l d is m c open_ its = cc
      in_chamber Aligner l d is m c open_ its = cc
      in_chamber Arm l d is m c open_ its = cc
      in_chamber (Chamber i) l d is m c open_ its =
          let same : i ≡ d = cc in
          idle_not_busy (picture f) (chamber_module i) m c (idle_seen f b (chamber_number i) (l.from_chamber i refl).0) (its ∙ ap chamber_module (sym same)) open_

  -- a useful pick may be issued
  may_pick : (n : ℕ) (w : PlaceView) → IsSeen f n w → is_useful (views f) f.modules w ≡ true → MayIssue 1 (pick n (loc_of w.at)) (picture f)
  may_pick n w s useful =
      let parts = and_parts (may_leave w.at f.modules w) (is_some (free_target (views f) f.modules w)) useful in
      let l = leaves f.modules w w.at parts.0 in
      let target = is_this (free_target (views f) f.modules w) parts.1 in
      record {
        idles = robot_idle;
        is_module = module_within f b 1 rests;
        member = leaving_member n w w.at s refl l;
        unnamed = leaving_unnamed n w w.at s refl l;
        picks = λ k from t. of_task k from t (pick_stands n w target.0 w.at s refl l target.1);
        places = λ k to t. absurd (cc);
        aligns = λ k t. absurd (cc);
        processes = λ k t. absurd (cc);
      }
    where
      of_task : (k : ℕ) (from : Loc) → pick n (loc_of w.at) ≡ pick k from → PickStands 1 n (loc_of w.at) (picture f) → PickStands 1 k from (picture f)
      of_task k from t stands =
          let number : n ≡ k = cc in
          let start : loc_of w.at ≡ from = cc in
          subst (λ (i : ℕ). PickStands 1 i from (picture f)) number (subst (λ (x : Loc). PickStands 1 n x (picture f)) start stands)

  -- the best one is useful, so row 2 may be issued
  pub may_pick_best : (w : PlaceView) → best_pick (views f) f.modules ≡ Some w → (n : ℕ) × IsSeen f n w × MayIssue 1 (pick n (loc_of w.at)) (picture f)
  may_pick_best w e =
      let best = best_is (views f) f.modules w e in
      let its = view_seen f b best.there.0 w best.there.1 in
      (its.0, its.1, may_pick its.0 w its.1 best.useful)
