-- A registration keeps what holds.
use Rattle.std.proofs.Common.{◌≡◌, ◌≤◌, ◌<◌, ℕ, ◌+◌, Bool, true, false, not, ◌&&◌, ◌||◌, length, Option, Some, None, refl, sym, ap, subst, ◌∙◌, ◌⊎◌, inl, inr, arith}
use Rattle.std.proofs.lemmas.Bool.{false_from_ne_true}
use Rattle.gem_tables.specs.Table.{is_one_of}
use Rattle.floor_moves.specs.Floor.{Loc, slot, aligner, arm, chamber, Floor, set, own, is_outside, is_finished, step_at, next_step, is_done}
use Rattle.floor_moves.specs.Carriers.{registered, MayRegister}
use Rattle.floor_moves.specs.Valid.{Empty, HasRoom, Places, Carriers, Commands, Members, Steps, Valid}
use Rattle.floor_moves.proofs.Maps.{set_tells, set_here, set_else, set_both}
use Rattle.floor_moves.proofs.Scans.{one_of_behind, one_of_front, one_of_last, distinct_behind}

module _ (g : Floor) (v : Valid g) (c p k : ℕ) (may : MayRegister c p k g) where
  -- the number of the new substrate
  abbrev pub r : ℕ
  r = g.next_substrate

  abbrev pub new : Floor
  new = registered c p k g

  -- it was not given
  pub not_it : (n : ℕ) → is_one_of g.substrates n ≡ true → n ≡ r → ⊥
  not_it n known same = let less = v.places.given n known in omega (arith, less, same)

  fresh : is_one_of g.substrates r ≡ true → ⊥
  fresh known = not_it r known refl

  nowhere : (l : Loc) → g.place_of r ≡ Some l → ⊥
  nowhere l e = fresh (v.places.kept r l e)

  jobless : g.jobs.is_member r ≡ true → ⊥
  jobless is = fresh (v.members.kept r is)

  -- no other has that slot
  free : (n : ℕ) → is_one_of g.substrates n ≡ true → own n g ≡ slot p k → ⊥
  free n known same = may.is_new n known its_carrier (its_slot same)
    where
      its_port : own n g ≡ slot p k → g.port_of n ≡ p
      its_port e = cc

      its_slot : own n g ≡ slot p k → g.slot_of n ≡ k
      its_slot e = cc

      its_carrier : g.carrier_of n ≡ c
      its_carrier = v.carriers.alone (g.carrier_of n) c p (v.carriers.present n known ∙ ap (λ (x : ℕ). Some x) (its_port same)) may.is_present

  -- the slot is empty
  pub slot_free : Empty (slot p k) g
  slot_free n at = free n (v.places.kept n (slot p k) at) (sym (v.places.home n p k at))

  same_own : (n : ℕ) → (n ≡ r → ⊥) → own n new ≡ own n g
  same_own n other =
      ap (λ (x : ℕ). slot x (set r k g.slot_of n)) (set_else r n p g.port_of other) ∙ ap (λ (x : ℕ). slot (g.port_of n) x) (set_else r n k g.slot_of other)

  its_own : own r new ≡ slot p k
  its_own = ap (λ (x : ℕ). slot x (set r k g.slot_of r)) (set_here r p g.port_of) ∙ ap (λ (x : ℕ). slot p x) (set_here r k g.slot_of)

  -- who is where: the new one in its slot, and the others as before
  abbrev Tells : ℕ → Loc → Type 0
  Tells n l = ((n ≡ r) × (slot p k ≡ l)) ⊎ ((n ≡ r → ⊥) × (g.place_of n ≡ Some l))

  tells : (n : ℕ) (l : Loc) → new.place_of n ≡ Some l → Tells n l
  tells n l e = by (set_tells r n (Some (slot p k)) g.place_of (Some l) e)
    where
      by : ((n ≡ r) × (Some (slot p k) ≡ Some l)) ⊎ ((n ≡ r → ⊥) × (g.place_of n ≡ Some l)) → Tells n l
      by (inl t) = let e : Some (slot p k) ≡ Some l = t.1 in inl (t.0, cc)
      by (inr t) = inr t

  -- who is outside was
  was_there : (n : ℕ) (l : Loc) → ((x y : ℕ) → l ≡ slot x y → ⊥) → new.place_of n ≡ Some l → (n ≡ r → ⊥) × (g.place_of n ≡ Some l)
  was_there n l not_slot e = by (tells n l e)
    where
      by : Tells n l → (n ≡ r → ⊥) × (g.place_of n ≡ Some l)
      by (inl t) = absurd (not_slot p k (sym t.1))
      by (inr t) = t

  stays_empty : (l : Loc) → (slot p k ≡ l → ⊥) → Empty l g → Empty l new
  stays_empty l other none n e = by (tells n l e)
    where
      by : Tells n l → ⊥
      by (inl t) = other t.1
      by (inr t) = none n t.1

  still : (n : ℕ) (l : Loc) → (n ≡ r → ⊥) → g.place_of n ≡ Some l → new.place_of n ≡ Some l
  still n l other e = set_else r n (Some (slot p k)) g.place_of other ∙ e

  -- what stands somewhere is another
  another : (n : ℕ) (l : Loc) → g.place_of n ≡ Some l → n ≡ r → ⊥
  another n l e same = nowhere l (ap g.place_of (sym same) ∙ e)

  same_processing : (n : ℕ) → (n ≡ r → ⊥) → new.processing n ≡ g.processing n
  same_processing n other = set_else r n 0 g.processing other

  same_aligned : (n : ℕ) → (n ≡ r → ⊥) → new.is_aligned n ≡ g.is_aligned n
  same_aligned n other = set_else r n _ g.is_aligned other

  same_steps : (n : ℕ) → (n ≡ r → ⊥) → new.steps_of n ≡ g.steps_of n
  same_steps n other = set_else r n 0 g.steps_of other

  same_next : (n x : ℕ) (b : Bool) → (n ≡ r → ⊥) → is_one_of (next_step n g) x ≡ b → is_one_of (next_step n new) x ≡ b
  same_next n x b other e = ap (λ (i : ℕ). is_one_of (step_at i (g.jobs.route_of n)) x) (same_steps n other) ∙ e

  was_unfinished : (n : ℕ) → (n ≡ r → ⊥) → is_finished (new.processing n) ≡ false → is_finished (g.processing n) ≡ false
  was_unfinished n other u = sym (ap is_finished (same_processing n other)) ∙ u

  room_stays : (n : ℕ) → (n ≡ r → ⊥) → HasRoom n g → HasRoom n new
  room_stays n other h f = let o = h (sym (ap is_finished (same_processing n other)) ∙ f) in record {
    at_aligner = λ un. stays_empty aligner (λ e. cc) (o.at_aligner (sym (same_aligned n other) ∙ un));
    in_chamber = λ al. let d = o.in_chamber (sym (same_aligned n other) ∙ al) in (d.0, same_next n d.0 true other d.1, d.2, stays_empty (chamber d.0) (λ e. cc) d.3);
  }

  was_known : (n : ℕ) → is_one_of new.substrates n ≡ true → (n ≡ r) ⊎ (is_one_of g.substrates n ≡ true)
  was_known n e = one_of_behind g.substrates r n e

  is_known : (n : ℕ) → is_one_of g.substrates n ≡ true → is_one_of new.substrates n ≡ true
  is_known n e = one_of_front g.substrates r n e

  new_places : Places new
  new_places = record {
    apart = λ n m l e f. differ n m l (tells n l e) (tells m l f);
    home = λ n x y e. at_home n x y (tells n (slot x y) e);
    kept = λ n l e. here n l (tells n l e);
    slots = λ n m a b same. one n m (was_known n a) (was_known m b) same;
    distinct = distinct_behind g.substrates r v.places.distinct (false_from_ne_true (is_one_of g.substrates r) fresh);
    given = λ n known. lower n (was_known n known);
    chambers = λ n d e. let w = was_there n (chamber d) (λ x y q. cc) e in v.places.chambers n d w.1;
  } where
    differ : (n m : ℕ) (l : Loc) → Tells n l → Tells m l → n ≡ m
    differ n m l (inl t) (inl u) = t.0 ∙ sym u.0
    differ n m l (inl t) (inr u) = absurd (slot_free m (u.1 ∙ ap (λ (x : Loc). Some x) (sym t.1)))
    differ n m l (inr t) (inl u) = absurd (slot_free n (t.1 ∙ ap (λ (x : Loc). Some x) (sym u.1)))
    differ n m l (inr t) (inr u) = v.places.apart n m l t.1 u.1

    at_home : (n x y : ℕ) → Tells n (slot x y) → slot x y ≡ own n new
    at_home n x y (inl t) = sym t.1 ∙ sym its_own ∙ ap (λ (i : ℕ). own i new) (sym t.0)
    at_home n x y (inr t) = v.places.home n x y t.1 ∙ sym (same_own n t.0)

    here : (n : ℕ) (l : Loc) → Tells n l → is_one_of new.substrates n ≡ true
    here n l (inl t) = subst (λ (i : ℕ). is_one_of new.substrates i ≡ true) (sym t.0) (one_of_last g.substrates r)
    here n l (inr t) = is_known n (v.places.kept n l t.1)

    one : (n m : ℕ) → (n ≡ r) ⊎ (is_one_of g.substrates n ≡ true) → (m ≡ r) ⊎ (is_one_of g.substrates m ≡ true) → own n new ≡ own m new → n ≡ m
    one n m (inl a) (inl b) same = a ∙ sym b
    one n m (inl a) (inr b) same = absurd (free m b (sym (same_own m (not_it m b)) ∙ sym same ∙ ap (λ (i : ℕ). own i new) a ∙ its_own))
    one n m (inr a) (inl b) same = absurd (free n a (sym (same_own n (not_it n a)) ∙ same ∙ ap (λ (i : ℕ). own i new) b ∙ its_own))
    one n m (inr a) (inr b) same = v.places.slots n m a b (sym (same_own n (not_it n a)) ∙ same ∙ same_own m (not_it m b))

    lower : (n : ℕ) → (n ≡ r) ⊎ (is_one_of g.substrates n ≡ true) → n < g.next_substrate + 1
    lower n (inl same) = omega (arith, same)
    lower n (inr t) = let less = v.places.given n t in omega (arith, less)

  new_carriers : Carriers new
  new_carriers = record {
    present = λ n known. by_port n (was_known n known);
    verified = λ n known. by_map n (was_known n known);
    alone = v.carriers.alone;
    known = v.carriers.known;
  } where
    by_port : (n : ℕ) → (n ≡ r) ⊎ (is_one_of g.substrates n ≡ true) → g.present_at (new.carrier_of n) ≡ Some (new.port_of n)
    by_port n (inl same) =
        ap (λ (i : ℕ). g.present_at (new.carrier_of i)) same ∙ ap g.present_at (set_here r c g.carrier_of) ∙ may.is_present
        ∙ ap (λ (x : ℕ). Some x) (sym (set_here r p g.port_of)) ∙ ap (λ (i : ℕ). Some (new.port_of i)) (sym same)
    by_port n (inr t) = let other = not_it n t in
        ap g.present_at (set_else r n c g.carrier_of other) ∙ v.carriers.present n t ∙ ap (λ (x : ℕ). Some x) (sym (set_else r n p g.port_of other))

    by_map : (n : ℕ) → (n ≡ r) ⊎ (is_one_of g.substrates n ≡ true) → g.is_verified (new.carrier_of n) ≡ true
    by_map n (inl same) = ap (λ (i : ℕ). g.is_verified (new.carrier_of i)) same ∙ ap g.is_verified (set_here r c g.carrier_of) ∙ may.is_read
    by_map n (inr t) = ap g.is_verified (set_else r n c g.carrier_of (not_it n t)) ∙ v.carriers.verified n t

  new_commands : Commands new
  new_commands = record {
    picks = λ m n l d e t. let s = v.commands.picks m n l d e t in let o = another n l s.stands in record {
      robot = s.robot;
      stands = still n l o s.stands;
      free = stays_empty arm (λ e. cc) s.free;
      room = room_stays n o s.room;
      from_slot = λ x y is. ap is_finished (same_processing n o) ∙ s.from_slot x y is;
      from_aligner = λ is. subst (λ (b : Bool). (is_finished (new.processing n) || b) ≡ true) (sym (same_aligned n o)) (subst (λ (i : ℕ). (is_finished i || g.is_aligned n) ≡ true) (sym (same_processing n o)) (s.from_aligner is));
      from_chamber = λ x is u. same_next n x false o (s.from_chamber x is (was_unfinished n o u));
      not_arm = s.not_arm;
    };
    places = λ m n l d e t. let s = v.commands.places m n l d e t in let o = another n arm s.stands in record {
      robot = s.robot;
      stands = still n arm o s.stands;
      free = stays_empty l (λ same. end_is_free n l (v.places.kept n arm s.stands) (λ x y is. (s.to_slot x y is).0) same) s.free;
      to_slot = λ x y is. let w = s.to_slot x y is in (w.0 ∙ sym (same_own n o), ap is_finished (same_processing n o) ∙ w.1);
      to_aligner = λ is. same_aligned n o ∙ s.to_aligner is;
      to_chamber = λ x is. let w = s.to_chamber x is in (w.0, same_aligned n o ∙ w.1, λ u. same_next n x true o (w.2 (was_unfinished n o u)));
      not_arm = s.not_arm;
    };
    aligns = λ m n d e t. let s = v.commands.aligns m n d e t in let o = another n aligner s.stands in record { its_module = s.its_module; stands = still n aligner o s.stands; unaligned = same_aligned n o ∙ s.unaligned };
    processes = λ m n d e t. let s = v.commands.processes m n d e t in let o = another n (chamber s.0) s.2 in (s.0, s.1, still n (chamber s.0) o s.2, ap is_finished (same_processing n o) ∙ s.3, same_next n s.0 true o s.4);
    once = v.commands.once;
    numbers = v.commands.numbers;
    below = v.commands.below;
    room = λ n e. let w = was_there n arm (λ x y q. cc) e in room_stays n w.0 (v.commands.room n w.1);
    modules = v.commands.modules;
  } where
    -- a Place to a slot goes to another
    end_is_free : (n : ℕ) (l : Loc) → is_one_of g.substrates n ≡ true → ((x y : ℕ) → l ≡ slot x y → slot x y ≡ own n g) → slot p k ≡ l → ⊥
    end_is_free n l known its same = free n known (sym (its p k (sym same)))

  new_members : Members new
  new_members = record {
    outside = λ n. set_both r n (Some (slot p k)) g.place_of (λ x. is_outside x ≡ true → g.jobs.is_member n ≡ true) (λ same e. absurd (cc)) (λ other e. v.members.outside n e);
    named = v.members.named;
    starting = v.members.starting;
    kept = λ n is. is_known n (v.members.kept n is);
    carrier = λ n is. ap g.jobs.names_carrier (same_carrier n is) ∙ v.members.carrier n is;
    here = λ n is. let same = ap g.access (same_carrier n is) in let less = v.members.here n is in omega (arith, same, less);
    complete = λ n is over. done n (other n is) (v.members.complete n is over);
    left = λ n is u. let o = other n is in subst (λ (i : ℕ). i < length (g.jobs.route_of n)) (sym (same_steps n o)) (v.members.left n is (was_unfinished n o u));
  } where
    other : (n : ℕ) → g.jobs.is_member n ≡ true → n ≡ r → ⊥
    other n is same = jobless (ap g.jobs.is_member (sym same) ∙ is)

    same_carrier : (n : ℕ) → g.jobs.is_member n ≡ true → new.carrier_of n ≡ g.carrier_of n
    same_carrier n is = set_else r n c g.carrier_of (other n is)

    done : (n : ℕ) → (n ≡ r → ⊥) → is_done n g ≡ true → is_done n new ≡ true
    done n w d = ap (λ (i : ℕ). is_finished i && not (is_outside (new.place_of n))) (same_processing n w) ∙ ap (λ (x : Option Loc). is_finished (g.processing n) && not (is_outside x)) (set_else r n (Some (slot p k)) g.place_of w) ∙ d

  new_steps : Steps new
  new_steps = record {
    aligned = λ n d e. let w = was_there n (chamber d) (λ x y q. cc) e in same_aligned n w.0 ∙ v.steps.aligned n d w.1;
    on_route = λ n d e u. let w = was_there n (chamber d) (λ x y q. cc) e in let old = v.steps.on_route n d w.1 (was_unfinished n w.0 u) in (old.0, subst (λ (i : ℕ). old.0 ≤ i) (sym (same_steps n w.0)) old.1, old.2);
    in_slot = λ n x y e u. needing n x y u (tells n (slot x y) e);
    fresh = λ n known. set_both r n 0 g.steps_of (λ i. new.processing n ≡ 0 → i ≡ 0) (λ same z. refl) (λ w z. v.steps.fresh n (was_kept n w (was_known n known)) (sym (same_processing n w) ∙ z));
  } where
    was_kept : (n : ℕ) → (n ≡ r → ⊥) → (n ≡ r) ⊎ (is_one_of g.substrates n ≡ true) → is_one_of g.substrates n ≡ true
    was_kept n w (inl same) = absurd (w same)
    was_kept n w (inr t) = t

    needing : (n x y : ℕ) → is_finished (new.processing n) ≡ false → Tells n (slot x y) → new.processing n ≡ 0
    needing n x y u (inl t) = ap new.processing t.0 ∙ set_here r 0 g.processing
    needing n x y u (inr t) = same_processing n t.0 ∙ v.steps.in_slot n x y t.1 (was_unfinished n t.0 u)

  pub registered-keeps : Valid new
  registered-keeps = record {
    places = new_places;
    carriers = new_carriers;
    commands = new_commands;
    members = new_members;
    steps = new_steps;
    removed = gone_one;
  } where
    gone_one : (n : ℕ) → is_one_of new.substrates n ≡ true → new.place_of n ≡ None → is_finished (new.processing n) ≡ true
    gone_one n known gone = by_known (was_known n known)
      where
        by_known : (n ≡ r) ⊎ (is_one_of g.substrates n ≡ true) → is_finished (new.processing n) ≡ true
        by_known (inl same) = let z : Some (slot p k) ≡ None = sym (set_here r (Some (slot p k)) g.place_of) ∙ ap new.place_of (sym same) ∙ gone in absurd (cc)
        by_known (inr t) = ap is_finished (same_processing n (not_it n t)) ∙ v.removed n t (sym (set_else r n (Some (slot p k)) g.place_of (not_it n t)) ∙ gone)
