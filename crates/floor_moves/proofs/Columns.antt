-- Rows that change one state alone.
use Rattle.std.proofs.Common.{◌≡◌, ℕ, ◌==◌, Bool, true, false, not, ◌&&◌, ◌||◌, Some, refl, sym, ap, subst, ◌∙◌, ◌⊎◌, inl, inr}
use Rattle.std.proofs.lemmas.Bool.{false_from_ne_true, cases_Bool}
use Rattle.std.proofs.lemmas.Bool.Decides.{Decides-eqb}
use Rattle.floor_moves.specs.Floor.{Loc, slot, pick, process, Command, busy, Floor, set, is_outside, is_finished, is_done}
use Rattle.floor_moves.specs.Effects.{transported, worked}
use Rattle.floor_moves.specs.Valid.{HasRoom, Valid}
use Rattle.floor_moves.proofs.Maps.{set_both}

-- ---- table 12: nothing reads the states of transport

pub transported-keeps : (g : Floor) (n state : ℕ) → Valid g → Valid (transported n state g)
transported-keeps g n state v = record { places = v.places; carriers = v.carriers; commands = v.commands; members = v.members; steps = v.steps; removed = v.removed }

-- ---- table 13

-- It stays finished, and one that an open Pick from its slot or an open Process names is not finished; an unfinished one in its slot NEEDS
-- PROCESSING, and what NEEDS PROCESSING did.
pub record MayWork (n state : ℕ) (g : Floor) : Type 0 where
  pub stays : is_finished (g.processing n) ≡ true → is_finished state ≡ true
  pub picked : (m p k : ℕ) (c : Command) → g.equipment m ≡ busy c → c.task ≡ pick n (slot p k) → is_finished state ≡ false
  pub processed : (m : ℕ) (c : Command) → g.equipment m ≡ busy c → c.task ≡ process n → is_finished state ≡ false
  pub in_slot : (p k : ℕ) → g.place_of n ≡ Some (slot p k) → is_finished state ≡ false → state ≡ 0
  pub needed : state ≡ 0 → g.processing n ≡ 0

module _ (g : Floor) (n state : ℕ) (may : MayWork n state g) where
  -- what was finished is finished
  finished_stays : (k : ℕ) → is_finished (g.processing k) ≡ true → is_finished (set n state g.processing k) ≡ true
  finished_stays k e = set_both n k state g.processing (λ (s : ℕ). is_finished s ≡ true) (λ same. may.stays (subst (λ (i : ℕ). is_finished (g.processing i) ≡ true) same e)) (λ other. e)

  -- what isn't finished wasn't
  unfinished_was : (k : ℕ) → is_finished (set n state g.processing k) ≡ false → is_finished (g.processing k) ≡ false
  unfinished_was k e = false_from_ne_true (is_finished (g.processing k)) (λ t. let f = finished_stays k t in absurd (cc))

  room_stays : (k : ℕ) → HasRoom k g → HasRoom k (worked n state g)
  room_stays k r e = r (unfinished_was k e)

  or_finished : (k : ℕ) (b : Bool) → (is_finished (g.processing k) || b) ≡ true → (is_finished (set n state g.processing k) || b) ≡ true
  or_finished k b e = by (cases_Bool (is_finished (g.processing k)))
    where
      by : (is_finished (g.processing k) ≡ true) ⊎ (is_finished (g.processing k) ≡ false) → (is_finished (set n state g.processing k) || b) ≡ true
      by (inl t) = ap (λ (x : Bool). x || b) (finished_stays k t)
      by (inr f) = let is : b ≡ true = sym (ap (λ (x : Bool). x || b) f) ∙ e in last (is_finished (set n state g.processing k)) is
        where
          last : (x : Bool) → b ≡ true → (x || b) ≡ true
          last true q = cc
          last false q = q

  done_stays : (k : ℕ) → is_done k g ≡ true → is_done k (worked n state g) ≡ true
  done_stays k e = by (cases_Bool (is_finished (g.processing k))) e
    where
      by : (is_finished (g.processing k) ≡ true) ⊎ (is_finished (g.processing k) ≡ false) → (is_finished (g.processing k) && not (is_outside (g.place_of k))) ≡ true → (is_finished (set n state g.processing k) && not (is_outside (g.place_of k))) ≡ true
      by (inl t) f = let s = finished_stays k t in ap (λ (x : Bool). x && not (is_outside (g.place_of k))) s ∙ sym (ap (λ (x : Bool). x && not (is_outside (g.place_of k))) t) ∙ f
      by (inr t) f = absurd (cc)

  pub worked-keeps : Valid g → Valid (worked n state g)
  worked-keeps v = record {
    places = v.places;
    carriers = v.carriers;
    commands = record {
      picks = λ m k l c e t. let s = v.commands.picks m k l c e t in record {
        robot = s.robot;
        stands = s.stands;
        free = s.free;
        room = room_stays k s.room;
        from_slot = λ p q is. set_both n k state g.processing (λ x. is_finished x ≡ false) (λ same. may.picked m p q c e (t ∙ ap (λ (i : ℕ). pick i l) same ∙ ap (λ (x : Loc). pick n x) is)) (λ other. s.from_slot p q is);
        from_aligner = λ is. or_finished k (g.is_aligned k) (s.from_aligner is);
        from_chamber = λ d is u. s.from_chamber d is (unfinished_was k u);
        not_arm = s.not_arm;
      };
      places = λ m k l c e t. let s = v.commands.places m k l c e t in record {
        robot = s.robot;
        stands = s.stands;
        free = s.free;
        to_slot = λ p q is. let old = s.to_slot p q is in (old.0, finished_stays k old.1);
        to_aligner = s.to_aligner;
        to_chamber = λ d is. let old = s.to_chamber d is in (old.0, old.1, λ u. old.2 (unfinished_was k u));
        not_arm = s.not_arm;
      };
      aligns = v.commands.aligns;
      processes = λ m k c e t. let s = v.commands.processes m k c e t in
          (s.0, s.1, s.2, set_both n k state g.processing (λ x. is_finished x ≡ false) (λ same. may.processed m c e (t ∙ ap (λ (i : ℕ). process i) same)) (λ other. s.3), s.4);
      once = v.commands.once;
      numbers = v.commands.numbers;
      below = v.commands.below;
      room = λ k e. room_stays k (v.commands.room k e);
      modules = v.commands.modules;
    };
    members = record {
      outside = v.members.outside;
      named = v.members.named;
      starting = v.members.starting;
      kept = v.members.kept;
      carrier = v.members.carrier;
      here = v.members.here;
      complete = λ k is over. done_stays k (v.members.complete k is over);
      left = λ k is u. v.members.left k is (unfinished_was k u);
    };
    steps = record {
      aligned = v.steps.aligned;
      on_route = λ k d at u. v.steps.on_route k d at (unfinished_was k u);
      in_slot = λ k p q at. set_both n k state g.processing (λ x. is_finished x ≡ false → x ≡ 0) (λ same. may.in_slot p q (ap g.place_of (sym same) ∙ at)) (λ other. v.steps.in_slot k p q at);
      fresh = λ k known. set_both n k state g.processing (λ x. x ≡ 0 → g.steps_of k ≡ 0) (λ same z. v.steps.fresh k known (ap g.processing same ∙ may.needed z)) (λ other. v.steps.fresh k known);
    };
    removed = λ k known gone. finished_stays k (v.removed k known gone);
  }

-- the row of a substrate that is registered, which is NEEDS PROCESSING then
pub needing-keeps : (g : Floor) (n : ℕ) → (g.processing n == 0) ≡ true → Valid g → Valid (worked n 0 g)
needing-keeps g n zero_ v = worked-keeps g n 0 (record {
  stays = λ f. absurd (unfinished f);
  picked = λ m p k c e u. refl;
  processed = λ m c e u. refl;
  in_slot = λ p k at u. refl;
  needed = λ e. needs;
}) v
  where
    needs : g.processing n ≡ 0
    needs = (Decides-eqb (g.processing n) 0).0 zero_

    unfinished : is_finished (g.processing n) ≡ true → ⊥
    unfinished f = let no = ap is_finished needs in cc
