-- Done of a Pick, a Place and an Align, and a substrate that is lost.
use Rattle.std.proofs.Common.{◌≡◌, ℕ, true, false, not, ◌&&◌, Some, None, sym, ap, subst, ◌∙◌, ◌⊎◌, inl, inr, arith}
use Rattle.gem_tables.specs.Table.{is_one_of}
use Rattle.floor_moves.specs.Floor.{Loc, slot, aligner, arm, chamber, named, Command, idle, busy, Floor, own, is_outside, is_finished, next_step, is_done}
use Rattle.floor_moves.specs.Effects.{moved}
use Rattle.floor_moves.specs.Valid.{Empty, HasRoom, Places, Commands, Members, IsOnRoute, Steps, Valid}
use Rattle.floor_moves.proofs.Maps.{set_tells, set_else, set_both}
use Rattle.floor_moves.proofs.Issuing.{left_open}

pub idle_not_busy : (c : Command) → idle ≡ busy c → ⊥
idle_not_busy c e = cc

-- what the robot's command is closed by
module _ (g : Floor) (m n : ℕ) (l : Loc) (c : Command) (is : g.equipment m ≡ busy c) (robot : m ≡ 1) (names : named c.task ≡ n) (v : Valid g) where
  -- an open command behind it was open, is another module's, and names another substrate
  was_open : (k : ℕ) (d : Command) → (moved n l m g).equipment k ≡ busy d → (k ≡ m → ⊥) × (g.equipment k ≡ busy d)
  was_open k d e = left_open g m idle idle_not_busy k d e

  names_other : (k : ℕ) (d : Command) → (moved n l m g).equipment k ≡ busy d → named d.task ≡ n → ⊥
  names_other k d e same = let w = was_open k d e in w.0 (v.commands.once k m d c w.1 is (same ∙ sym names))

  stands_still : (k : ℕ) (d : Command) → (moved n l m g).equipment k ≡ busy d → (i : ℕ) → named d.task ≡ i → (x : Loc) → g.place_of i ≡ Some x → (moved n l m g).place_of i ≡ Some x
  stands_still k d e i its x at = set_else n i (Some l) g.place_of (λ same. names_other k d e (its ∙ same)) ∙ at

  -- where nothing stood, and the substrate does not come, nothing stands
  pub stays_empty : (x : Loc) → (x ≡ l → ⊥) → Empty x g → Empty x (moved n l m g)
  stays_empty x other free k at = by (set_tells n k (Some l) g.place_of (Some x) at)
    where
      by : ((k ≡ n) × (Some l ≡ Some x)) ⊎ ((k ≡ n → ⊥) × (g.place_of k ≡ Some x)) → ⊥
      by (inl t) = let e : Some l ≡ Some x = t.1 in other (sym (inner e))
        where
          inner : Some l ≡ Some x → l ≡ x
          inner e = cc
      by (inr t) = free k t.1

  abbrev pub Tells : ℕ → Loc → Type 0
  Tells k x = ((k ≡ n) × (l ≡ x)) ⊎ ((k ≡ n → ⊥) × (g.place_of k ≡ Some x))

  pub moved_places : is_one_of g.substrates n ≡ true → Empty l g → ((p k : ℕ) → l ≡ slot p k → slot p k ≡ own n g) → ((d : ℕ) → l ≡ chamber d → is_one_of g.chambers d ≡ true) → Places (moved n l m g)
  moved_places known free its_own in_plant = record {
    apart = λ k i x e f. differ k i x (tells k x e) (tells i x f);
    home = λ k p q e. at_home k p q (tells k (slot p q) e);
    kept = λ k x e. registered k x (tells k x e);
    slots = v.places.slots;
    distinct = v.places.distinct;
    given = v.places.given;
    chambers = λ k d e. of_plant k d (tells k (chamber d) e);
  } where
    tells : (k : ℕ) (x : Loc) → (moved n l m g).place_of k ≡ Some x → Tells k x
    tells k x e = by (set_tells n k (Some l) g.place_of (Some x) e)
      where
        by : ((k ≡ n) × (Some l ≡ Some x)) ⊎ ((k ≡ n → ⊥) × (g.place_of k ≡ Some x)) → Tells k x
        by (inl t) = let e : Some l ≡ Some x = t.1 in inl (t.0, cc)
        by (inr t) = inr t

    differ : (k i : ℕ) (x : Loc) → Tells k x → Tells i x → k ≡ i
    differ k i x (inl t) (inl u) = t.0 ∙ sym u.0
    differ k i x (inl t) (inr u) = absurd (free i (u.1 ∙ ap (λ (y : Loc). Some y) (sym t.1)))
    differ k i x (inr t) (inl u) = absurd (free k (t.1 ∙ ap (λ (y : Loc). Some y) (sym u.1)))
    differ k i x (inr t) (inr u) = v.places.apart k i x t.1 u.1

    at_home : (k p q : ℕ) → Tells k (slot p q) → slot p q ≡ own k g
    at_home k p q (inl t) = its_own p q t.1 ∙ ap (λ (i : ℕ). own i g) (sym t.0)
    at_home k p q (inr t) = v.places.home k p q t.1

    registered : (k : ℕ) (x : Loc) → Tells k x → is_one_of g.substrates k ≡ true
    registered k x (inl t) = subst (λ (i : ℕ). is_one_of g.substrates i ≡ true) (sym t.0) known
    registered k x (inr t) = v.places.kept k x t.1

    of_plant : (k d : ℕ) → Tells k (chamber d) → is_one_of g.chambers d ≡ true
    of_plant k d (inl t) = in_plant d t.1
    of_plant k d (inr t) = v.places.chambers k d t.1

  -- the other commands stand
  pub moved_commands : ((i : ℕ) → (moved n l m g).place_of i ≡ Some arm → HasRoom i (moved n l m g)) → Commands (moved n l m g)
  moved_commands room = record {
    picks = λ k i x d e t. let w = was_open k d e in absurd (w.0 ((v.commands.picks k i x d w.1 t).robot ∙ sym robot));
    places = λ k i x d e t. let w = was_open k d e in absurd (w.0 ((v.commands.places k i x d w.1 t).robot ∙ sym robot));
    aligns = λ k i d e t. let s = v.commands.aligns k i d (was_open k d e).1 t in record { its_module = s.its_module; stands = stands_still k d e i (ap named t) aligner s.stands; unaligned = s.unaligned };
    processes = λ k i d e t. let s = v.commands.processes k i d (was_open k d e).1 t in (s.0, s.1, stands_still k d e i (ap named t) (chamber s.0) s.2, s.3, s.4);
    once = λ k i d f e h same. v.commands.once k i d f (was_open k d e).1 (was_open i f h).1 same;
    numbers = λ k i d f e h same. v.commands.numbers k i d f (was_open k d e).1 (was_open i f h).1 same;
    below = λ k d e. v.commands.below k d (was_open k d e).1;
    room = room;
    modules = λ k d e. v.commands.modules k d (was_open k d e).1;
  }

  pub moved_members : is_done n g ≡ false → Members (moved n l m g)
  moved_members not_done = record {
    outside = λ k out. set_both n k (Some l) g.place_of (λ p. is_outside p ≡ true → g.jobs.is_member k ≡ true) (λ same _. its_member k same) (λ other old. v.members.outside k old) out;
    named = λ k d e. v.members.named k d (was_open k d e).1;
    starting = v.members.starting;
    kept = v.members.kept;
    carrier = v.members.carrier;
    here = v.members.here;
    complete = λ k is over. set_both n k (Some l) g.place_of (λ p. (is_finished (g.processing k) && not (is_outside p)) ≡ true) (λ same. absurd (never k is over same)) (λ other. v.members.complete k is over);
    left = v.members.left;
  } where
    never : (k : ℕ) → g.jobs.is_member k ≡ true → g.jobs.is_complete k ≡ true → k ≡ n → ⊥
    never k is over same = let d = v.members.complete k is over in let e : is_done n g ≡ true = subst (λ (i : ℕ). is_done i g ≡ true) same d in cc

    its_member : (k : ℕ) → k ≡ n → g.jobs.is_member k ≡ true
    its_member k same = ap (λ (i : ℕ). g.jobs.is_member i) (same ∙ sym names) ∙ v.members.named m c is

  -- into a chamber goes what is aligned, and unfinished to one of its next step; into a slot what is finished
  pub moved_steps : ((d : ℕ) → l ≡ chamber d → (g.is_aligned n ≡ true) × (is_finished (g.processing n) ≡ false → is_one_of (next_step n g) d ≡ true))
      → ((p k : ℕ) → l ≡ slot p k → is_finished (g.processing n) ≡ true) → Steps (moved n l m g)
  moved_steps to_chamber to_slot = record {
    aligned = λ k d e. aligned_there k d (set_tells n k (Some l) g.place_of (Some (chamber d)) e);
    on_route = λ k d e u. routed k d u (set_tells n k (Some l) g.place_of (Some (chamber d)) e);
    in_slot = λ k p q e u. needing k p q u (set_tells n k (Some l) g.place_of (Some (slot p q)) e);
    fresh = v.steps.fresh;
  } where
    same_loc : (a b : Loc) → Some a ≡ Some b → a ≡ b
    same_loc a b e = cc

    aligned_there : (k d : ℕ) → ((k ≡ n) × (Some l ≡ Some (chamber d))) ⊎ ((k ≡ n → ⊥) × (g.place_of k ≡ Some (chamber d))) → g.is_aligned k ≡ true
    aligned_there k d (inl t) = ap g.is_aligned t.0 ∙ (to_chamber d (same_loc l (chamber d) t.1)).0
    aligned_there k d (inr t) = v.steps.aligned k d t.1

    its_route : (d : ℕ) → is_finished (g.processing n) ≡ false → Some l ≡ Some (chamber d) → IsOnRoute n d g
    its_route d u e = (g.steps_of n, omega arith, (to_chamber d (same_loc l (chamber d) e)).1 u)

    routed : (k d : ℕ) → is_finished (g.processing k) ≡ false → ((k ≡ n) × (Some l ≡ Some (chamber d))) ⊎ ((k ≡ n → ⊥) × (g.place_of k ≡ Some (chamber d))) → IsOnRoute k d g
    routed k d u (inl t) = subst (λ (i : ℕ). IsOnRoute i d g) (sym t.0) (its_route d (ap (λ (i : ℕ). is_finished (g.processing i)) (sym t.0) ∙ u) t.1)
    routed k d u (inr t) = v.steps.on_route k d t.1 u

    needing : (k p q : ℕ) → is_finished (g.processing k) ≡ false → ((k ≡ n) × (Some l ≡ Some (slot p q))) ⊎ ((k ≡ n → ⊥) × (g.place_of k ≡ Some (slot p q))) → g.processing k ≡ 0
    needing k p q u (inl t) = absurd (let is : is_finished (g.processing k) ≡ true = ap (λ (i : ℕ). is_finished (g.processing i)) t.0 ∙ to_slot p q (same_loc l (slot p q) t.1) in cc)
    needing k p q u (inr t) = v.steps.in_slot k p q t.1 u

  pub moved_removed : (k : ℕ) → is_one_of g.substrates k ≡ true → (moved n l m g).place_of k ≡ None → is_finished (g.processing k) ≡ true
  moved_removed k known gone = set_both n k (Some l) g.place_of (λ p. p ≡ None → is_finished (g.processing k) ≡ true) (λ same e. absurd (cc)) (λ other e. v.removed k known e) gone
