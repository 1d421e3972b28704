-- What the aligner and the chambers are to do fits the places: rows 3 and 4 of table 16 may be issued.
use Rattle.std.proofs.Common.{◌≡◌, ℕ, Bool, true, false, ◌||◌, Some, refl, ◌∙◌, ap, subst}
use Rattle.gem_tables.specs.Table.{is_one_of}
use Rattle.gem_ids.specs.declared.numbers.LocId.{LocId}
use Rattle.gem_ids.specs.declared.numbers.LocId.TheVariants.{Aligner, Chamber}
use Rattle.robot_moves.specs.Modules.{module_at, is_idle, chamber_module as chamber_number}
use Rattle.robot_moves.specs.Moves.{is_next}
use Rattle.robot_moves.specs.declared.view.PlaceView.{PlaceView}
use Rattle.floor_model.specs.Floor.{ToolFloor}
use Rattle.floor_moves.specs.Floor.{Loc, aligner, arm, chamber, align, process, Command, idle, busy, is_outside, is_finished, next_step, chamber_module}
use Rattle.floor_moves.specs.Valid.{AlignStands, ProcessStands, PickStands, PlaceStands, Valid}
use Rattle.place_laws.specs.Picture.{picture, loc_of}
use Rattle.place_laws.specs.Sound.{Base}
use Rattle.floor_laws.proofs.IssueViews.{IsSeen}
use Rattle.floor_laws.proofs.IssueTargets.{idle_seen, module_within}
use Rattle.floor_moves.proofs.Issuing.{MayIssue}
use Rattle.floor_laws.proofs.IssueRobot.{unnamed_by, idle_not_busy, one_place}

-- one that is neither is not one of the two
neither_so : (a b : Bool) → a ≡ false → b ≡ false → (a || b) ≡ true → ⊥
neither_so true b e d is = cc
neither_so false b e d is = cc

module _ (f : ToolFloor) (b : Base f) (v : Valid (picture f)) where
  -- ---- row 3: what stands at an Idle aligner, unfinished and not aligned

  pub may_align : (n : ℕ) (w : PlaceView) → IsSeen f n w → w.at ≡ Aligner → w.finished ≡ false → w.aligned ≡ false → is_idle (module_at 2 f.modules) ≡ true → MayIssue 2 (align n) (picture f)
  may_align n w s e unfinished unaligned rests = record {
    idles = its_idle;
    is_module = module_within f b 2 rests;
    member = v.members.outside n (ap is_outside here);
    unnamed = unnamed_by (picture f) v n no_pick no_place no_align no_process;
    picks = λ k l t. absurd (cc);
    places = λ k l t. absurd (cc);
    aligns = λ k t. of_task k t;
    processes = λ k t. absurd (cc);
  } where
    here : (picture f).place_of n ≡ Some aligner
    here = s.at ∙ ap (λ (x : LocId). Some (loc_of x)) e

    its_idle : (picture f).equipment 2 ≡ idle
    its_idle = idle_seen f b 2 rests

    no_pick : (m : ℕ) (l : Loc) (c : Command) → (picture f).equipment m ≡ busy c → PickStands m n l (picture f) → ⊥
    no_pick m l c open_ t =
        let from : l ≡ aligner = one_place (picture f) n l aligner t.stands here in
        neither_so (is_finished ((picture f).processing n)) ((picture f).is_aligned n) (s.finished ∙ unfinished) (s.aligned ∙ unaligned) (t.from_aligner from)

    no_place : (m : ℕ) (l : Loc) (c : Command) → (picture f).equipment m ≡ busy c → PlaceStands m n l (picture f) → ⊥
    no_place m l c open_ t = let at : arm ≡ aligner = one_place (picture f) n arm aligner t.stands here in cc

    no_align : (m : ℕ) (c : Command) → (picture f).equipment m ≡ busy c → AlignStands m n (picture f) → ⊥
    no_align m c open_ t = idle_not_busy (picture f) 2 m c its_idle t.its_module open_

    no_process : (m : ℕ) (c : Command) → (picture f).equipment m ≡ busy c → ProcessStands m n (picture f) → ⊥
    no_process m c open_ t = let at : chamber t.0 ≡ aligner = one_place (picture f) n (chamber t.0) aligner t.2 here in cc

    of_task : (k : ℕ) → align n ≡ align k → AlignStands 2 k (picture f)
    of_task k t =
        let number : n ≡ k = cc in
        subst (λ (i : ℕ). AlignStands 2 i (picture f)) number (record { its_module = refl; stands = here; unaligned = s.aligned ∙ unaligned })

  -- ---- row 4: what stands in a chamber that is Idle and in its next step, unfinished

  pub may_process : (n c : ℕ) (w : PlaceView) → IsSeen f n w → w.at ≡ Chamber c → w.finished ≡ false → is_next w c ≡ true → is_idle (module_at (chamber_number c) f.modules) ≡ true → MayIssue (chamber_number c) (process n) (picture f)
  may_process n c w s e unfinished next rests = record {
    idles = its_idle;
    is_module = module_within f b (chamber_number c) rests;
    member = v.members.outside n (ap is_outside here);
    unnamed = unnamed_by (picture f) v n no_pick no_place no_align no_process;
    picks = λ k l t. absurd (cc);
    places = λ k l t. absurd (cc);
    aligns = λ k t. absurd (cc);
    processes = λ k t. of_task k t;
  } where
    here : (picture f).place_of n ≡ Some (chamber c)
    here = s.at ∙ ap (λ (x : LocId). Some (loc_of x)) e

    not_yet : is_finished ((picture f).processing n) ≡ false
    not_yet = s.finished ∙ unfinished

    is_due : is_one_of (next_step n (picture f)) c ≡ true
    is_due = s.next (v.members.outside n (ap is_outside here)) c ∙ next

    its_idle : (picture f).equipment (chamber_module c) ≡ idle
    its_idle = idle_seen f b (chamber_number c) rests

    no_pick : (m : ℕ) (l : Loc) (d : Command) → (picture f).equipment m ≡ busy d → PickStands m n l (picture f) → ⊥
    no_pick m l d open_ t =
        let from : l ≡ chamber c = one_place (picture f) n l (chamber c) t.stands here in
        let through = t.from_chamber c from not_yet in
        let due = is_due in
        cc

    no_place : (m : ℕ) (l : Loc) (d : Command) → (picture f).equipment m ≡ busy d → PlaceStands m n l (picture f) → ⊥
    no_place m l d open_ t = let at : arm ≡ chamber c = one_place (picture f) n arm (chamber c) t.stands here in cc

    no_align : (m : ℕ) (d : Command) → (picture f).equipment m ≡ busy d → AlignStands m n (picture f) → ⊥
    no_align m d open_ t = let at : aligner ≡ chamber c = one_place (picture f) n aligner (chamber c) t.stands here in cc

    no_process : (m : ℕ) (d : Command) → (picture f).equipment m ≡ busy d → ProcessStands m n (picture f) → ⊥
    no_process m d open_ t =
        let at : chamber t.0 ≡ chamber c = one_place (picture f) n (chamber t.0) (chamber c) t.2 here in
        let same : t.0 ≡ c = cc in
        idle_not_busy (picture f) (chamber_module c) m d its_idle (t.1 ∙ ap chamber_module same) open_

    of_task : (k : ℕ) → process n ≡ process k → ProcessStands (chamber_number c) k (picture f)
    of_task k t =
        let number : n ≡ k = cc in
        subst (λ (i : ℕ). ProcessStands (chamber_number c) i (picture f)) number (c, refl, here, not_yet, is_due)
