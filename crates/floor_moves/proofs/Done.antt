-- The direct rows of Done, and of a substrate that is lost, keep what holds.
use Rattle.std.proofs.Common.{◌≡◌, ◌≤◌, ◌<◌, ℕ, ◌+◌, Bool, true, false, not, ◌&&◌, ◌||◌, length, Option, Some, None, refl, sym, ap, subst, ◌∙◌, ◌⊎◌, inl, inr, arith}
use Rattle.gem_tables.specs.Table.{is_one_of}
use Rattle.floor_moves.specs.Floor.{Loc, slot, aligner, arm, chamber, pick, place, align, process, named, Command, Module, idle, busy, Floor, set, is_outside, is_finished, step_at, next_step, is_done}
use Rattle.floor_moves.specs.Effects.{turned, moved, aligned, lost, worked, processed, stepped}
use Rattle.floor_moves.specs.Valid.{Empty, IsUnnamed, HasRoom, PickStands, PlaceStands, HaveChambers, Valid}
use Rattle.floor_moves.specs.Agree.{Agree}
use Rattle.floor_moves.proofs.Maps.{set_tells, set_here, set_else, set_both}
use Rattle.floor_moves.proofs.Columns.{worked-keeps}
use Rattle.floor_moves.proofs.Issuing.{left_open}
use Rattle.floor_moves.proofs.Facts.{outside_not_done, picked_not_done}
use Rattle.floor_moves.proofs.Moving.{idle_not_busy, stays_empty, moved_places, moved_commands, moved_members, moved_steps, moved_removed}
use Rattle.floor_moves.proofs.Agreeing.{alike_same, agree-keeps}

-- ---- Done of a Pick

pub done_pick-keeps : (g : Floor) (m n : ℕ) (l : Loc) (c : Command) → g.equipment m ≡ busy c → c.task ≡ pick n l → Valid g → Valid (moved n arm m g)
done_pick-keeps g m n l c is t v = record {
  places = moved_places g m n arm c is s.robot names v (v.places.kept n l s.stands) s.free (λ p k e. absurd (cc)) (λ d e. absurd (cc));
  carriers = v.carriers;
  commands = moved_commands g m n arm c is s.robot names v room;
  members = moved_members g m n arm c is s.robot names v (picked_not_done g m n l s);
  steps = moved_steps g m n arm c is s.robot names v (λ d e. absurd (cc)) (λ p k e. absurd (cc));
  removed = moved_removed g m n arm c is s.robot names v;
} where
  s : PickStands m n l g
  s = v.commands.picks m n l c is t

  names : named c.task ≡ n
  names = ap named t

  empty : (x : Loc) → (x ≡ arm → ⊥) → Empty x g → Empty x (moved n arm m g)
  empty = stays_empty g m n arm c is s.robot names v

  its_room : HasRoom n (moved n arm m g)
  its_room f = let r = s.room f in record {
    at_aligner = λ un. empty aligner (λ e. absurd (cc)) (r.at_aligner un);
    in_chamber = λ al. let d = r.in_chamber al in (d.0, d.1, d.2, empty (chamber d.0) (λ e. absurd (cc)) d.3);
  }

  room : (i : ℕ) → (moved n arm m g).place_of i ≡ Some arm → HasRoom i (moved n arm m g)
  room i at = by (set_tells n i (Some arm) g.place_of (Some arm) at)
    where
      by : ((i ≡ n) × (Some arm ≡ Some arm)) ⊎ ((i ≡ n → ⊥) × (g.place_of i ≡ Some arm)) → HasRoom i (moved n arm m g)
      by (inl u) = subst (λ (k : ℕ). HasRoom k (moved n arm m g)) (sym u.0) its_room
      by (inr u) = absurd (s.free i u.1)

-- ---- Done of a Place

pub done_place-keeps : (g : Floor) (m n : ℕ) (l : Loc) (c : Command) → g.equipment m ≡ busy c → c.task ≡ place n l → Valid g → Valid (moved n l m g)
done_place-keeps g m n l c is t v = record {
  places = moved_places g m n l c is s.robot names v (v.places.kept n arm s.stands) s.free (λ p k e. (s.to_slot p k e).0) (λ d e. (s.to_chamber d e).0);
  carriers = v.carriers;
  commands = moved_commands g m n l c is s.robot names v room;
  members = moved_members g m n l c is s.robot names v (outside_not_done g n (ap is_outside s.stands));
  steps = moved_steps g m n l c is s.robot names v (λ d e. let o = s.to_chamber d e in (o.1, o.2)) (λ p k e. (s.to_slot p k e).1);
  removed = moved_removed g m n l c is s.robot names v;
} where
  s : PlaceStands m n l g
  s = v.commands.places m n l c is t

  names : named c.task ≡ n
  names = ap named t

  same_loc : Some l ≡ Some arm → l ≡ arm
  same_loc e = cc

  room : (i : ℕ) → (moved n l m g).place_of i ≡ Some arm → HasRoom i (moved n l m g)
  room i at = by (set_tells n i (Some l) g.place_of (Some arm) at)
    where
      by : ((i ≡ n) × (Some l ≡ Some arm)) ⊎ ((i ≡ n → ⊥) × (g.place_of i ≡ Some arm)) → HasRoom i (moved n l m g)
      by (inl u) = absurd (s.not_arm (same_loc u.1))
      by (inr u) = absurd (u.0 (v.places.apart i n arm u.1 s.stands))

-- ---- Done of an Align

pub done_align-keeps : (g : Floor) (m n : ℕ) (c : Command) → g.equipment m ≡ busy c → c.task ≡ align n → Valid g → Valid (aligned n m g)
done_align-keeps g m n c is t v = record {
  places = v.places;
  carriers = v.carriers;
  commands = record {
    picks = λ k i l d e u. let old = v.commands.picks k i l d (left k d e).1 u in let w = other k d i e (ap named u) in record {
      robot = old.robot;
      stands = old.stands;
      free = old.free;
      room = room_stays i w old.room;
      from_slot = old.from_slot;
      from_aligner = λ at. subst (λ (b : Bool). (is_finished (g.processing i) || b) ≡ true) (sym (set_else n i true g.is_aligned w)) (old.from_aligner at);
      from_chamber = old.from_chamber;
      not_arm = old.not_arm;
    };
    places = λ k i l d e u. let old = v.commands.places k i l d (left k d e).1 u in let w = other k d i e (ap named u) in record {
      robot = old.robot;
      stands = old.stands;
      free = old.free;
      to_slot = old.to_slot;
      to_aligner = λ at. set_else n i true g.is_aligned w ∙ old.to_aligner at;
      to_chamber = λ x at. let o = old.to_chamber x at in (o.0, set_else n i true g.is_aligned w ∙ o.1, o.2);
      not_arm = old.not_arm;
    };
    aligns = λ k i d e u. let old = v.commands.aligns k i d (left k d e).1 u in let w = other k d i e (ap named u) in record {
      its_module = old.its_module;
      stands = old.stands;
      unaligned = set_else n i true g.is_aligned w ∙ old.unaligned;
    };
    processes = λ k i d e u. v.commands.processes k i d (left k d e).1 u;
    once = λ k i d f e h same. v.commands.once k i d f (left k d e).1 (left i f h).1 same;
    numbers = λ k i d f e h same. v.commands.numbers k i d f (left k d e).1 (left i f h).1 same;
    below = λ k d e. v.commands.below k d (left k d e).1;
    room = λ i at. room_stays i (λ same. on_arm i at same) (v.commands.room i at);
    modules = λ k d e. v.commands.modules k d (left k d e).1;
  };
  members = record {
    outside = v.members.outside;
    named = λ k d e. v.members.named k d (left k d e).1;
    starting = v.members.starting;
    kept = v.members.kept;
    carrier = v.members.carrier;
    here = v.members.here;
    complete = v.members.complete;
    left = v.members.left;
  };
  steps = record {
    aligned = λ k d at. set_both n k true g.is_aligned (λ b. b ≡ true) (λ same. refl) (λ w. v.steps.aligned k d at);
    on_route = v.steps.on_route;
    in_slot = v.steps.in_slot;
    fresh = v.steps.fresh;
  };
  removed = v.removed;
} where
  left : (k : ℕ) (d : Command) → (aligned n m g).equipment k ≡ busy d → (k ≡ m → ⊥) × (g.equipment k ≡ busy d)
  left k d e = left_open g m idle idle_not_busy k d e

  other : (k : ℕ) (d : Command) (i : ℕ) → (aligned n m g).equipment k ≡ busy d → named d.task ≡ i → i ≡ n → ⊥
  other k d i e its same = let w = left k d e in w.0 (v.commands.once k m d c w.1 is (its ∙ same ∙ sym (ap named t)))

  room_stays : (i : ℕ) → (i ≡ n → ⊥) → HasRoom i g → HasRoom i (aligned n m g)
  room_stays i w r f = let old = r f in record {
    at_aligner = λ un. old.at_aligner (sym (set_else n i true g.is_aligned w) ∙ un);
    in_chamber = λ al. old.in_chamber (sym (set_else n i true g.is_aligned w) ∙ al);
  }

  on_arm : (i : ℕ) → g.place_of i ≡ Some arm → i ≡ n → ⊥
  on_arm i at same = let s = v.commands.aligns m n c is t in let two : Some arm ≡ Some aligner = sym at ∙ ap g.place_of same ∙ s.stands in cc

-- ---- a Process is closed, by Done of the last step, Failed or Down: the substrate is then PROCESSED or ABORTED

-- no open command names its substrate then
pub closed-unnamed : (g : Floor) (m n : ℕ) (c : Command) (behind : Module) → ((d : Command) → behind ≡ busy d → ⊥) → g.equipment m ≡ busy c → c.task ≡ process n → Valid g → IsUnnamed n (turned m behind g)
closed-unnamed g m n c behind not_busy is t v k d e its = let w = left_open g m behind not_busy k d e in w.0 (v.commands.once k m d c w.1 is (its ∙ sym (ap named t)))

-- and it is finished
pub finished-keeps : (g : Floor) (n state : ℕ) → is_finished state ≡ true → IsUnnamed n g → Valid g → Valid (worked n state g)
finished-keeps g n state finished unnamed = worked-keeps g n state (record {
  stays = λ e. finished;
  picked = λ k p q d e u. absurd (unnamed k d e (ap named u));
  processed = λ k d e u. absurd (unnamed k d e (ap named u));
  in_slot = λ p k at u. absurd (cc);
  needed = λ z. absurd (let needs = ap is_finished z in cc);
})

-- The last step that is done with it is asked no more, so row 3 of table 13 is that.
pub processed_agrees : (g : Floor) (n : ℕ) → Agree (worked n 2 g) (processed n g)
processed_agrees g n = record {
  substrates = refl;
  next_substrate = refl;
  carrier_of = λ k _. refl;
  port_of = λ k _. refl;
  slot_of = λ k _. refl;
  place_of = λ k. refl;
  processing = λ k _. refl;
  is_aligned = λ k _. refl;
  steps_of = λ k _ u. set_else n k (g.steps_of n + 1) g.steps_of (other k u);
  carriers = refl;
  present_at = λ c. refl;
  is_verified = λ c _. refl;
  access = λ c _. refl;
  jobs = alike_same g.present_at g.jobs;
  chambers = refl;
  equipment = λ m. refl;
  next_command = refl;
} where
  other : (k : ℕ) → is_finished (set n 2 g.processing k) ≡ false → k ≡ n → ⊥
  other k u same = let f : is_finished (set n 2 g.processing k) ≡ true = ap (λ (i : ℕ). is_finished (set n 2 g.processing i)) same ∙ ap is_finished (set_here n 2 g.processing) in cc

pub processed-keeps : (g : Floor) (n : ℕ) → IsUnnamed n g → Valid g → Valid (processed n g)
processed-keeps g n unnamed v = agree-keeps (worked n 2 g) (processed n g) (processed_agrees g n) (finished-keeps g n 2 refl unnamed v)

-- ---- a Process is closed by Done, and its step isn't the last

pub stepped-keeps : (g : Floor) (m n : ℕ) (c : Command) → g.equipment m ≡ busy c → c.task ≡ process n → g.processing n ≡ 1 → g.steps_of n + 1 < length (g.jobs.route_of n) → Valid g → Valid (stepped n m g)
stepped-keeps g m n c is t begun more v = record {
  places = v.places;
  carriers = v.carriers;
  commands = record {
    picks = λ k i l d e u. let old = v.commands.picks k i l d (left k d e).1 u in let w = other k d i e (ap named u) in record {
      robot = old.robot;
      stands = old.stands;
      free = old.free;
      room = room_stays i w old.room;
      from_slot = old.from_slot;
      from_aligner = old.from_aligner;
      from_chamber = λ x at f. next i x false w (old.from_chamber x at f);
      not_arm = old.not_arm;
    };
    places = λ k i l d e u. let old = v.commands.places k i l d (left k d e).1 u in let w = other k d i e (ap named u) in record {
      robot = old.robot;
      stands = old.stands;
      free = old.free;
      to_slot = old.to_slot;
      to_aligner = old.to_aligner;
      to_chamber = λ x at. let o = old.to_chamber x at in (o.0, o.1, λ f. next i x true w (o.2 f));
      not_arm = old.not_arm;
    };
    aligns = λ k i d e u. v.commands.aligns k i d (left k d e).1 u;
    processes = λ k i d e u. let old = v.commands.processes k i d (left k d e).1 u in (old.0, old.1, old.2, old.3, next i old.0 true (other k d i e (ap named u)) old.4);
    once = λ k i d f e h same. v.commands.once k i d f (left k d e).1 (left i f h).1 same;
    numbers = λ k i d f e h same. v.commands.numbers k i d f (left k d e).1 (left i f h).1 same;
    below = λ k d e. v.commands.below k d (left k d e).1;
    room = λ i at. room_stays i (on_arm i at) (v.commands.room i at);
    modules = λ k d e. v.commands.modules k d (left k d e).1;
  };
  members = record {
    outside = v.members.outside;
    named = λ k d e. v.members.named k d (left k d e).1;
    starting = v.members.starting;
    kept = v.members.kept;
    carrier = v.members.carrier;
    here = v.members.here;
    complete = v.members.complete;
    left = λ k in_job f. set_both n k (g.steps_of n + 1) g.steps_of (λ s. s < length (g.jobs.route_of k)) (λ same. subst (λ (i : ℕ). g.steps_of n + 1 < length (g.jobs.route_of i)) (sym same) more) (λ w. v.members.left k in_job f);
  };
  steps = record {
    aligned = v.steps.aligned;
    on_route = λ k x at f. let old = v.steps.on_route k x at f in (old.0, set_both n k (g.steps_of n + 1) g.steps_of (λ s. old.0 ≤ s) (λ same. longer k old.0 same old.1) (λ w. old.1), old.2);
    in_slot = v.steps.in_slot;
    fresh = λ k known needs. set_else n k (g.steps_of n + 1) g.steps_of (λ same. has_begun k needs same) ∙ v.steps.fresh k known needs;
  };
  removed = v.removed;
} where
  left : (k : ℕ) (d : Command) → (stepped n m g).equipment k ≡ busy d → (k ≡ m → ⊥) × (g.equipment k ≡ busy d)
  left k d e = left_open g m idle idle_not_busy k d e

  other : (k : ℕ) (d : Command) (i : ℕ) → (stepped n m g).equipment k ≡ busy d → named d.task ≡ i → i ≡ n → ⊥
  other k d i e its same = let w = left k d e in w.0 (v.commands.once k m d c w.1 is (its ∙ same ∙ sym (ap named t)))

  next : (i x : ℕ) (b : Bool) → (i ≡ n → ⊥) → is_one_of (next_step i g) x ≡ b → is_one_of (next_step i (stepped n m g)) x ≡ b
  next i x b w e = ap (λ (s : ℕ). is_one_of (step_at s (g.jobs.route_of i)) x) (set_else n i (g.steps_of n + 1) g.steps_of w) ∙ e

  room_stays : (i : ℕ) → (i ≡ n → ⊥) → HasRoom i g → HasRoom i (stepped n m g)
  room_stays i w r f = let old = r f in record {
    at_aligner = old.at_aligner;
    in_chamber = λ al. let d = old.in_chamber al in (d.0, next i d.0 true w d.1, d.2, d.3);
  }

  on_arm : (i : ℕ) → g.place_of i ≡ Some arm → i ≡ n → ⊥
  on_arm i at same = let s = v.commands.processes m n c is t in let two : Some arm ≡ Some (chamber s.0) = sym at ∙ ap g.place_of same ∙ s.2 in cc

  longer : (k i : ℕ) → k ≡ n → i ≤ g.steps_of k → i ≤ g.steps_of n + 1
  longer k i same less = let l : i ≤ g.steps_of n = subst (λ (j : ℕ). i ≤ g.steps_of j) same less in omega (arith, l)

  has_begun : (k : ℕ) → g.processing k ≡ 0 → k ≡ n → ⊥
  has_begun k needs same = let none : g.processing n ≡ 0 = ap g.processing (sym same) ∙ needs in cc

-- and each step that is left has a chamber of the tool still
pub stepped-reaches : (g : Floor) (m n : ℕ) → HaveChambers g → HaveChambers (stepped n m g)
stepped-reaches g m n h = record {
  reach = λ k i in_job least most. h.reach k i in_job (set_both n k (g.steps_of n + 1) g.steps_of (λ s. s ≤ i → g.steps_of k ≤ i) (λ same l. less k i same l) (λ w l. l) least) most;
  rise = h.rise;
} where
  less : (k i : ℕ) → k ≡ n → g.steps_of n + 1 ≤ i → g.steps_of k ≤ i
  less k i same l = let e = ap g.steps_of same in omega (arith, e, l)

-- ---- a substrate is lost

pub lost-keeps : (g : Floor) (n : ℕ) → is_outside (g.place_of n) ≡ true → IsUnnamed n g → Valid g → Valid (lost n g)
lost-keeps g n out unnamed v = record {
  places = record {
    apart = λ k i x e f. v.places.apart k i x (old k x e).1 (old i x f).1;
    home = λ k p q e. v.places.home k p q (old k (slot p q) e).1;
    kept = λ k x e. v.places.kept k x (old k x e).1;
    slots = v.places.slots;
    distinct = v.places.distinct;
    given = v.places.given;
    chambers = λ k d e. v.places.chambers k d (old k (chamber d) e).1;
  };
  carriers = v.carriers;
  commands = record {
    picks = λ k i x d e t. let s = v.commands.picks k i x d e t in let w = other k d i e (ap named t) in record {
      robot = s.robot;
      stands = at i x w s.stands;
      free = empty arm s.free;
      room = room_stays i w s.room;
      from_slot = λ p q is. ap is_finished (proc i w) ∙ s.from_slot p q is;
      from_aligner = λ is. subst (λ (b : ℕ). (is_finished b || g.is_aligned i) ≡ true) (sym (proc i w)) (s.from_aligner is);
      from_chamber = λ y is u. s.from_chamber y is (sym (ap is_finished (proc i w)) ∙ u);
      not_arm = s.not_arm;
    };
    places = λ k i x d e t. let s = v.commands.places k i x d e t in let w = other k d i e (ap named t) in record {
      robot = s.robot;
      stands = at i arm w s.stands;
      free = empty x s.free;
      to_slot = λ p q is. let o = s.to_slot p q is in (o.0, ap is_finished (proc i w) ∙ o.1);
      to_aligner = s.to_aligner;
      to_chamber = λ y is. let o = s.to_chamber y is in (o.0, o.1, λ u. o.2 (sym (ap is_finished (proc i w)) ∙ u));
      not_arm = s.not_arm;
    };
    aligns = λ k i d e t. let s = v.commands.aligns k i d e t in record { its_module = s.its_module; stands = at i aligner (other k d i e (ap named t)) s.stands; unaligned = s.unaligned };
    processes = λ k i d e t. let s = v.commands.processes k i d e t in let w = other k d i e (ap named t) in (s.0, s.1, at i (chamber s.0) w s.2, ap is_finished (proc i w) ∙ s.3, s.4);
    once = v.commands.once;
    numbers = v.commands.numbers;
    below = v.commands.below;
    room = λ i e. let o = old i arm e in room_stays i o.0 (v.commands.room i o.1);
    modules = v.commands.modules;
  };
  members = record {
    outside = λ k. set_both n k None g.place_of (λ p. is_outside p ≡ true → g.jobs.is_member k ≡ true) (λ same e. absurd (cc)) (λ w. v.members.outside k);
    named = v.members.named;
    starting = v.members.starting;
    kept = v.members.kept;
    carrier = v.members.carrier;
    here = v.members.here;
    complete = λ k is over. done k (v.members.complete k is over);
    left = λ k is u. v.members.left k is (unfinished_was k u);
  };
  steps = record {
    aligned = λ k d e. v.steps.aligned k d (old k (chamber d) e).1;
    on_route = λ k d e u. v.steps.on_route k d (old k (chamber d) e).1 (unfinished_was k u);
    in_slot = λ k p q e u. let o = old k (slot p q) e in proc k o.0 ∙ v.steps.in_slot k p q o.1 (unfinished_was k u);
    fresh = λ k known. set_both n k 6 g.processing (λ x. x ≡ 0 → g.steps_of k ≡ 0) (λ same z. absurd (cc)) (λ w. v.steps.fresh k known);
  };
  removed = λ k known gone. set_both n k 6 g.processing (λ x. is_finished x ≡ true) (λ same. refl) (λ w. v.removed k known (sym (set_else n k None g.place_of w) ∙ gone));
} where
  old : (k : ℕ) (x : Loc) → (lost n g).place_of k ≡ Some x → (k ≡ n → ⊥) × (g.place_of k ≡ Some x)
  old k x e = by (set_tells n k None g.place_of (Some x) e)
    where
      by : ((k ≡ n) × (None ≡ Some x)) ⊎ ((k ≡ n → ⊥) × (g.place_of k ≡ Some x)) → (k ≡ n → ⊥) × (g.place_of k ≡ Some x)
      by (inl t) = absurd (no t.1)
        where
          no : None ≡ Some x → ⊥
          no e = cc
      by (inr t) = t

  other : (k : ℕ) (d : Command) (i : ℕ) → g.equipment k ≡ busy d → named d.task ≡ i → i ≡ n → ⊥
  other k d i e its same = unnamed k d e (its ∙ same)

  at : (i : ℕ) (x : Loc) → (i ≡ n → ⊥) → g.place_of i ≡ Some x → (lost n g).place_of i ≡ Some x
  at i x w e = set_else n i None g.place_of w ∙ e

  proc : (i : ℕ) → (i ≡ n → ⊥) → (lost n g).processing i ≡ g.processing i
  proc i w = set_else n i 6 g.processing w

  unfinished_was : (k : ℕ) → is_finished ((lost n g).processing k) ≡ false → is_finished (g.processing k) ≡ false
  unfinished_was k = set_both n k 6 g.processing (λ x. is_finished x ≡ false → is_finished (g.processing k) ≡ false) (λ same e. absurd (cc)) (λ w e. e)

  empty : (x : Loc) → Empty x g → Empty x (lost n g)
  empty x free k e = free k (old k x e).1

  room_stays : (i : ℕ) → (i ≡ n → ⊥) → HasRoom i g → HasRoom i (lost n g)
  room_stays i w r f = let o = r (sym (ap is_finished (proc i w)) ∙ f) in record {
    at_aligner = λ un. empty aligner (o.at_aligner un);
    in_chamber = λ al. let d = o.in_chamber al in (d.0, d.1, d.2, empty (chamber d.0) d.3);
  }

  done : (k : ℕ) → is_done k g ≡ true → is_done k (lost n g) ≡ true
  done k e = set_both n k 6 g.processing (λ x. (is_finished x && not (is_outside ((lost n g).place_of k))) ≡ true) here there
    where
      here : k ≡ n → not (is_outside ((lost n g).place_of k)) ≡ true
      here same = ap (λ (p : Option Loc). not (is_outside p)) (ap (λ (i : ℕ). (lost n g).place_of i) same ∙ set_here n None g.place_of)

      there : (k ≡ n → ⊥) → (is_finished (g.processing k) && not (is_outside ((lost n g).place_of k))) ≡ true
      there w = ap (λ (p : Option Loc). is_finished (g.processing k) && not (is_outside p)) (set_else n k None g.place_of w) ∙ e
