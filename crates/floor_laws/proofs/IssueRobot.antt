-- What the robot is to do fits the places: rows 1 and 2 of table 16 may be issued.
use Rattle.std.proofs.Common.{◌≡◌, inl, inr, ℕ, true, Some, refl, sym, ◌∙◌, ap, subst}
use Rattle.gem_tables.specs.Table.{is_one_of}
use Rattle.gem_ids.specs.declared.numbers.LocId.{LocId}
use Rattle.gem_ids.specs.declared.numbers.LocId.TheVariants.{Arm}
use Rattle.robot_moves.specs.Modules.{module_at, is_idle}
use Rattle.robot_moves.specs.Moves.{is_free, free_target}
use Rattle.robot_moves.specs.declared.view.PlaceView.{PlaceView}
use Rattle.floor_model.specs.Floor.{ToolFloor}
use Rattle.floor_model.specs.Views.{views}
use Rattle.floor_moves.specs.Floor.{Loc, slot, aligner, arm, chamber, Task, pick, place, align, process, named, Command, Floor, idle, busy, is_outside, next_step}
use Rattle.floor_moves.specs.Valid.{PickStands, PlaceStands, AlignStands, ProcessStands, IsUnnamed, Valid}
use Rattle.floor_moves.proofs.Issuing.{MayIssue}
use Rattle.place_laws.specs.Picture.{picture, loc_of}
use Rattle.place_laws.specs.Sound.{Base}
use Rattle.floor_laws.proofs.IssueViews.{IsSeen}
use Rattle.floor_laws.proofs.IssueTargets.{idle_seen, module_within, IsTarget, free_target_is, free_empty, free_chamber_within}

-- ---- commands that name one

-- where no open command of any kind names a substrate, none does
pub unnamed_by : (g : Floor) (v : Valid g) (n : ℕ)
    → ((m : ℕ) (l : Loc) (c : Command) → g.equipment m ≡ busy c → PickStands m n l g → ⊥)
    → ((m : ℕ) (l : Loc) (c : Command) → g.equipment m ≡ busy c → PlaceStands m n l g → ⊥)
    → ((m : ℕ) (c : Command) → g.equipment m ≡ busy c → AlignStands m n g → ⊥)
    → ((m : ℕ) (c : Command) → g.equipment m ≡ busy c → ProcessStands m n g → ⊥)
    → IsUnnamed n g
unnamed_by g v n no_pick no_place no_align no_process m c open_ its = of c.task refl its where
  of : (t : Task) → c.task ≡ t → named t ≡ n → ⊥
  of (pick k l) e same = no_pick m l c open_ (v.commands.picks m n l c open_ (e ∙ ap (λ (i : ℕ). pick i l) same))
  of (place k l) e same = no_place m l c open_ (v.commands.places m n l c open_ (e ∙ ap (λ (i : ℕ). place i l) same))
  of (align k) e same = no_align m c open_ (v.commands.aligns m n c open_ (e ∙ ap (λ (i : ℕ). align i) same))
  of (process k) e same = no_process m c open_ (v.commands.processes m n c open_ (e ∙ ap (λ (i : ℕ). process i) same))

-- an idle module has no open command
pub idle_not_busy : (g : Floor) (m k : ℕ) (c : Command) → g.equipment m ≡ idle → k ≡ m → g.equipment k ≡ busy c → ⊥
idle_not_busy g m k c rests same open_ = let here : g.equipment m ≡ busy c = subst (λ (i : ℕ). g.equipment i ≡ busy c) same open_ in cc

-- a substrate has one place
pub one_place : (g : Floor) (n : ℕ) (l m : Loc) → g.place_of n ≡ Some l → g.place_of n ≡ Some m → l ≡ m
one_place g n l m e d = cc

-- ---- the robot

module _ (f : ToolFloor) (b : Base f) (v : Valid (picture f)) (rests : is_idle (module_at 1 f.modules) ≡ true) where
  -- the robot is idle by numbers
  robot_idle : (picture f).equipment 1 ≡ idle
  robot_idle = idle_seen f b 1 rests

  -- ---- row 1

  -- what the arm holds, where its target is free
  place_stands : (n : ℕ) (w : PlaceView) (loc : LocId) → IsSeen f n w → w.at ≡ Arm → free_target (views f) f.modules w ≡ Some loc → PlaceStands 1 n (loc_of loc) (picture f)
  place_stands n w loc s there e = of (free_target_is (views f) f.modules w loc e) where
    here : (picture f).place_of n ≡ Some arm
    here = s.at ∙ ap (λ (l : LocId). Some (loc_of l)) there

    of : IsTarget w loc × (is_free (views f) f.modules loc ≡ true) → PlaceStands 1 n (loc_of loc) (picture f)
    of (inl h, free) =
        let home = s.home in
        let slot_is : loc_of loc ≡ slot home.0.0 home.1.0 = ap loc_of (h.its_own ∙ home.2) in
        record {
          robot = refl;
          stands = here;
          free = free_empty f b loc free;
          to_slot = λ p k is. (sym is ∙ ap loc_of h.its_own ∙ sym s.its_own, s.finished ∙ h.finished);
          to_aligner = λ is. absurd (cc);
          to_chamber = λ c is. absurd (cc);
          not_arm = λ is. cc;
        }
    of (inr (inl h), free) =
        let at : loc_of loc ≡ aligner = ap loc_of h.at in
        record {
          robot = refl;
          stands = here;
          free = free_empty f b loc free;
          to_slot = λ p k is. absurd (cc);
          to_aligner = λ is. s.aligned ∙ h.unaligned;
          to_chamber = λ c is. absurd (cc);
          not_arm = λ is. cc;
        }
    of (inr (inr h), free) =
        let at : loc_of loc ≡ chamber h.c = ap loc_of h.at in
        let within = free_chamber_within f b h.c h.least (subst (λ (l : LocId). is_free (views f) f.modules l ≡ true) h.at free) in
        record {
          robot = refl;
          stands = here;
          free = free_empty f b loc free;
          to_slot = λ p k is. absurd (cc);
          to_aligner = λ is. absurd (cc);
          to_chamber = λ c is. let same : h.c ≡ c = cc in (
            subst (λ (i : ℕ). is_one_of (picture f).chambers i ≡ true) same within,
            s.aligned ∙ h.aligned,
            λ unfinished. subst (λ (i : ℕ). is_one_of (next_step n (picture f)) i ≡ true) same (s.next (v.members.outside n (ap is_outside here)) h.c ∙ h.next),
          );
          not_arm = λ is. cc;
        }

  -- nobody else names what the arm holds
  arm_unnamed : (n : ℕ) → (picture f).place_of n ≡ Some arm → IsUnnamed n (picture f)
  arm_unnamed n here =
      unnamed_by (picture f) v n
      (λ m l c open_ s. idle_not_busy (picture f) 1 m c robot_idle s.robot open_)
      (λ m l c open_ s. idle_not_busy (picture f) 1 m c robot_idle s.robot open_)
      (λ m c open_ s. let at = one_place (picture f) n arm aligner here s.stands in cc)
      (λ m c open_ s. let at = one_place (picture f) n arm (chamber s.0) here s.2 in cc)

  -- row 1 may be issued
  pub may_place : (n : ℕ) (w : PlaceView) (loc : LocId) → IsSeen f n w → w.at ≡ Arm → free_target (views f) f.modules w ≡ Some loc → MayIssue 1 (place n (loc_of loc)) (picture f)
  may_place n w loc s there e =
      let stands = place_stands n w loc s there e in
      record {
        idles = robot_idle;
        is_module = module_within f b 1 rests;
        member = v.members.outside n (ap is_outside stands.stands);
        unnamed = arm_unnamed n stands.stands;
        picks = λ k l t. absurd (cc);
        places = λ k l t. place_of_task k l t stands;
        aligns = λ k t. absurd (cc);
        processes = λ k t. absurd (cc);
      }
    where
      place_of_task : (k : ℕ) (l : Loc) → place n (loc_of loc) ≡ place k l → PlaceStands 1 n (loc_of loc) (picture f) → PlaceStands 1 k l (picture f)
      place_of_task k l t stands =
          let number : n ≡ k = cc in
          let to : loc_of loc ≡ l = cc in
          subst (λ (i : ℕ). PlaceStands 1 i l (picture f)) number (subst (λ (x : Loc). PlaceStands 1 n x (picture f)) to stands)
