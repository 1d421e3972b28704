-- What happens to carriers keeps what holds, and so does what process jobs say.
use Rattle.std.proofs.Common.{◌≡◌, ◌≤◌, ℕ, ◌==◌, Bool, true, false, not, ◌&&◌, List, Option, Some, None, cond, refl, sym, ap, subst, ◌∙◌, ◌⊎◌, inl, inr, arith}
use Rattle.std.proofs.lemmas.Bool.{false_from_ne_true, not-true}
use Rattle.std.proofs.lemmas.Bool.Decides.{Decides-eqb, not_from_Decides}
use Rattle.gem_tables.specs.Table.{is_one_of}
use Rattle.floor_moves.specs.Floor.{Loc, slot, aligner, arm, chamber, Task, pick, place, align, process, named, Command, busy, idle, JobView, Floor, opening, is_outside, is_finished, step_at, next_step}
use Rattle.floor_moves.specs.Carriers.{created, MayCreate, arrived, MayArrive, verified, forgotten, HasEnded, with_jobs}
use Rattle.floor_moves.specs.Valid.{Empty, HasRoom, Valid, MaySay}
use Rattle.floor_moves.proofs.Maps.{set_tells, set_else, set_both}
use Rattle.floor_moves.proofs.Scans.{filter_tells, filter_keeps, filter_distinct, one_of_front}
use Rattle.floor_moves.proofs.Facts.{is_number}
use Rattle.floor_moves.proofs.Promised.{no_member}

-- ---- the beginning

pub opening-valid : (chambers : _) → Valid (opening chambers)
opening-valid chambers = record {
  places = record {
    apart = λ n m l e f. absurd (nowhere l e);
    home = λ n p k e. absurd (nowhere (slot p k) e);
    kept = λ n l e. absurd (nowhere l e);
    slots = λ n m a b e. absurd (cc);
    distinct = tt;
    given = λ n a. absurd (cc);
    chambers = λ n c e. absurd (nowhere (chamber c) e);
  };
  carriers = record {
    present = λ n a. absurd (cc);
    verified = λ n a. absurd (cc);
    alone = λ c d p e f. absurd (cc);
    known = λ c p e. absurd (cc);
  };
  commands = record {
    picks = λ m n l c e t. absurd (no_command c e);
    places = λ m n l c e t. absurd (no_command c e);
    aligns = λ m n c e t. absurd (no_command c e);
    processes = λ m n c e t. absurd (no_command c e);
    once = λ m k c d e f same. absurd (no_command c e);
    numbers = λ m k c d e f same. absurd (no_command c e);
    below = λ m c e. absurd (no_command c e);
    room = λ n e. absurd (nowhere arm e);
    modules = λ m c e. absurd (no_command c e);
  };
  members = record {
    outside = λ n e. absurd (cc);
    named = λ m c e. absurd (no_command c e);
    starting = λ n e. absurd (cc);
    kept = λ n e. absurd (cc);
    carrier = λ n e. absurd (cc);
    here = λ n e. absurd (cc);
    complete = λ n e f. absurd (cc);
    left = λ n e f. absurd (cc);
  };
  steps = record {
    aligned = λ n c e. absurd (nowhere (chamber c) e);
    on_route = λ n c e f. absurd (nowhere (chamber c) e);
    in_slot = λ n p k e f. absurd (nowhere (slot p k) e);
    fresh = λ n a e. refl;
  };
  removed = λ n a e. absurd (cc);
} where
  nowhere : (l : Loc) → None ≡ Some l → ⊥
  nowhere l e = cc

  no_command : (c : Command) → idle ≡ busy c → ⊥
  no_command c e = cc

-- ---- a carrier is created, arrives, and is read

pub created-keeps : (g : Floor) (c : ℕ) → MayCreate c g → Valid g → Valid (created c g)
created-keeps g c new v = record {
  places = v.places;
  carriers = record {
    present = λ n kept. set_else c (g.carrier_of n) None g.present_at (its n kept) ∙ v.carriers.present n kept;
    verified = λ n kept. set_else c (g.carrier_of n) false g.is_verified (its n kept) ∙ v.carriers.verified n kept;
    alone = λ d e p a b. v.carriers.alone d e p (was d p a) (was e p b);
    known = λ d p a. one_of_front g.carriers c d (v.carriers.known d p (was d p a));
  };
  commands = v.commands;
  members = record {
    outside = v.members.outside;
    named = v.members.named;
    starting = v.members.starting;
    kept = v.members.kept;
    carrier = v.members.carrier;
    here = λ n is. set_both c (g.carrier_of n) 0 g.access (λ a. a ≤ 1) (λ same. omega arith) (λ other. v.members.here n is);
    complete = v.members.complete;
    left = v.members.left;
  };
  steps = v.steps;
  removed = v.removed;
} where
  its : (n : ℕ) → is_one_of g.substrates n ≡ true → g.carrier_of n ≡ c → ⊥
  its n kept same = let t = v.carriers.known (g.carrier_of n) (g.port_of n) (v.carriers.present n kept) in let u : is_one_of g.carriers c ≡ true = subst (λ (d : ℕ). is_one_of g.carriers d ≡ true) same t in cc

  was : (d p : ℕ) → (created c g).present_at d ≡ Some p → g.present_at d ≡ Some p
  was d p a = by (set_tells c d None g.present_at (Some p) a)
    where
      by : ((d ≡ c) × (None ≡ Some p)) ⊎ ((d ≡ c → ⊥) × (g.present_at d ≡ Some p)) → g.present_at d ≡ Some p
      by (inl t) = absurd (let z : None ≡ Some p = t.1 in cc)
      by (inr t) = t.1

-- who is at a port then: the carrier that arrives, or one that was
abbrev Tells : Floor → ℕ → ℕ → ℕ → ℕ → Type 0
Tells g c p d q = ((d ≡ c) × (p ≡ q)) ⊎ (g.present_at d ≡ Some q)

pub arrived-keeps : (g : Floor) (c p : ℕ) → MayArrive c p g → Valid g → Valid (arrived c p g)
arrived-keeps g c p may v = record {
  places = v.places;
  carriers = record {
    present = λ n kept. set_else c (g.carrier_of n) (Some p) g.present_at (its n kept) ∙ v.carriers.present n kept;
    verified = v.carriers.verified;
    alone = λ d e q a b. one d e q (tells d q a) (tells e q b);
    known = λ d q a. is_known d q (tells d q a);
  };
  commands = v.commands;
  members = v.members;
  steps = v.steps;
  removed = v.removed;
} where
  its : (n : ℕ) → is_one_of g.substrates n ≡ true → g.carrier_of n ≡ c → ⊥
  its n kept same = let t : g.present_at c ≡ Some (g.port_of n) = ap g.present_at (sym same) ∙ v.carriers.present n kept in let z : None ≡ Some (g.port_of n) = sym may.is_absent ∙ t in cc

  tells : (d q : ℕ) → (arrived c p g).present_at d ≡ Some q → Tells g c p d q
  tells d q a = by (set_tells c d (Some p) g.present_at (Some q) a)
    where
      by : ((d ≡ c) × (Some p ≡ Some q)) ⊎ ((d ≡ c → ⊥) × (g.present_at d ≡ Some q)) → Tells g c p d q
      by (inl t) = let e : Some p ≡ Some q = t.1 in inl (t.0, cc)
      by (inr t) = inr t.1

  at_port : (d q : ℕ) → p ≡ q → g.present_at d ≡ Some q → ⊥
  at_port d q same a = may.is_free d (a ∙ ap (λ (x : ℕ). Some x) (sym same))

  one : (d e q : ℕ) → Tells g c p d q → Tells g c p e q → d ≡ e
  one d e q (inl t) (inl u) = t.0 ∙ sym u.0
  one d e q (inl t) (inr u) = absurd (at_port e q t.1 u)
  one d e q (inr t) (inl u) = absurd (at_port d q u.1 t)
  one d e q (inr t) (inr u) = v.carriers.alone d e q t u

  is_known : (d q : ℕ) → Tells g c p d q → is_one_of g.carriers d ≡ true
  is_known d q (inl t) = subst (λ (x : ℕ). is_one_of g.carriers x ≡ true) (sym t.0) may.is_known
  is_known d q (inr t) = v.carriers.known d q t

pub verified-keeps : (g : Floor) (c : ℕ) → Valid g → Valid (verified c g)
verified-keeps g c v = record {
  places = v.places;
  carriers = record {
    present = v.carriers.present;
    verified = λ n kept. set_both c (g.carrier_of n) true g.is_verified (λ b. b ≡ true) (λ same. cc) (λ other. v.carriers.verified n kept);
    alone = v.carriers.alone;
    known = v.carriers.known;
  };
  commands = v.commands;
  members = v.members;
  steps = v.steps;
  removed = v.removed;
}

-- ---- process jobs go on

pub jobs_say-keeps : (g : Floor) (view : JobView) → MaySay view g → Valid g → Valid (with_jobs view g)
jobs_say-keeps g view may v = record {
  places = v.places;
  carriers = v.carriers;
  commands = record {
    picks = λ m n l c e t. let s = v.commands.picks m n l c e t in record {
      robot = s.robot;
      stands = s.stands;
      free = s.free;
      room = room n (route m n c e (ap named t)) s.room;
      from_slot = s.from_slot;
      from_aligner = s.from_aligner;
      from_chamber = λ d is u. next n d false (route m n c e (ap named t)) (s.from_chamber d is u);
      not_arm = s.not_arm;
    };
    places = λ m n l c e t. let s = v.commands.places m n l c e t in record {
      robot = s.robot;
      stands = s.stands;
      free = s.free;
      to_slot = s.to_slot;
      to_aligner = s.to_aligner;
      to_chamber = λ d is. let o = s.to_chamber d is in (o.0, o.1, λ u. next n d true (route m n c e (ap named t)) (o.2 u));
      not_arm = s.not_arm;
    };
    aligns = v.commands.aligns;
    processes = λ m n c e t. let s = v.commands.processes m n c e t in (s.0, s.1, s.2, s.3, next n s.0 true (route m n c e (ap named t)) s.4);
    once = v.commands.once;
    numbers = v.commands.numbers;
    below = v.commands.below;
    room = λ n at. room n (may.outside_same n (ap is_outside at)) (v.commands.room n at);
    modules = v.commands.modules;
  };
  members = may.right;
  steps = record {
    aligned = v.steps.aligned;
    on_route = λ n c at u. let w = v.steps.on_route n c at u in (w.0, w.1, ap (λ (r : List (List ℕ)). is_one_of (step_at w.0 r) c) (may.outside_same n (ap is_outside at)) ∙ w.2);
    in_slot = v.steps.in_slot;
    fresh = v.steps.fresh;
  };
  removed = v.removed;
} where
  route : (m n : ℕ) (c : Command) → g.equipment m ≡ busy c → named c.task ≡ n → view.route_of n ≡ g.jobs.route_of n
  route m n c e its = subst (λ (k : ℕ). view.route_of k ≡ g.jobs.route_of k) its (may.named_same m c e)

  next : (n c : ℕ) (b : Bool) → view.route_of n ≡ g.jobs.route_of n → is_one_of (next_step n g) c ≡ b → is_one_of (next_step n (with_jobs view g)) c ≡ b
  next n c b same e = ap (λ (r : List (List ℕ)). is_one_of (step_at (g.steps_of n) r) c) same ∙ e

  room : (n : ℕ) → view.route_of n ≡ g.jobs.route_of n → HasRoom n g → HasRoom n (with_jobs view g)
  room n same r f = let o = r f in record {
    at_aligner = o.at_aligner;
    in_chamber = λ al. let d = o.in_chamber al in (d.0, next n d.0 true same d.1, d.2, d.3);
  }

-- ---- a carrier is forgotten

module _ (g : Floor) (v : Valid g) (c : ℕ) (ends : HasEnded c g) where
  abbrev pub rest : Floor
  rest = forgotten c g

  -- its substrates are in no job, so none is outside or named
  not_its : (n : ℕ) → g.jobs.is_member n ≡ true → (g.carrier_of n == c) ≡ false
  not_its n is = false_from_ne_true (g.carrier_of n == c) (λ t. no_member g v.carriers v.members n (subst (λ (d : ℕ). HasEnded d g) (sym (is_number (g.carrier_of n) c t)) ends) is)

  stays_there : (n : ℕ) → (g.carrier_of n == c) ≡ false → rest.place_of n ≡ g.place_of n
  stays_there n e = ap (λ (b : Bool). cond b None (g.place_of n)) e

  was_there : (n : ℕ) (l : Loc) → rest.place_of n ≡ Some l → ((g.carrier_of n == c) ≡ false) × (g.place_of n ≡ Some l)
  was_there n l e = by (g.carrier_of n == c) refl e
    where
      by : (b : Bool) → (g.carrier_of n == c) ≡ b → cond b None (g.place_of n) ≡ Some l → ((g.carrier_of n == c) ≡ false) × (g.place_of n ≡ Some l)
      by true q f = absurd (cc)
      by false q f = (q, f)

  member_at : (n : ℕ) (l : Loc) → g.jobs.is_member n ≡ true → g.place_of n ≡ Some l → rest.place_of n ≡ Some l
  member_at n l is e = stays_there n (not_its n is) ∙ e

  empty : (l : Loc) → Empty l g → Empty l rest
  empty l none n e = none n (was_there n l e).1

  room_stays : (n : ℕ) → HasRoom n g → HasRoom n rest
  room_stays n h f = let o = h f in record {
    at_aligner = λ un. empty aligner (o.at_aligner un);
    in_chamber = λ al. let d = o.in_chamber al in (d.0, d.1, d.2, empty (chamber d.0) d.3);
  }

  in_job : (m n : ℕ) (d : Command) (t : Task) → g.equipment m ≡ busy d → d.task ≡ t → named t ≡ n → g.jobs.is_member n ≡ true
  in_job m n d t is e its = subst (λ (k : ℕ). g.jobs.is_member k ≡ true) (ap named e ∙ its) (v.members.named m d is)

  -- what is kept was, and is another carrier's
  was_kept : (n : ℕ) → is_one_of rest.substrates n ≡ true → (is_one_of g.substrates n ≡ true) × (g.carrier_of n ≡ c → ⊥)
  was_kept n kept = let w = filter_tells (λ n. not (g.carrier_of n == c)) g.substrates n kept in (w.0, not_from_Decides (g.carrier_of n == c) (Decides-eqb (g.carrier_of n) c) (not-true (g.carrier_of n == c) w.1))

  was_present : (d p : ℕ) → rest.present_at d ≡ Some p → (d ≡ c → ⊥) × (g.present_at d ≡ Some p)
  was_present d p a = by (set_tells c d None g.present_at (Some p) a)
    where
      by : ((d ≡ c) × (None ≡ Some p)) ⊎ ((d ≡ c → ⊥) × (g.present_at d ≡ Some p)) → (d ≡ c → ⊥) × (g.present_at d ≡ Some p)
      by (inl t) = absurd (let z : None ≡ Some p = t.1 in cc)
      by (inr t) = t

  other_number : (d : ℕ) → (d ≡ c → ⊥) → not (d == c) ≡ true
  other_number d other = ap not (false_from_ne_true (d == c) (λ t. other (is_number d c t)))

  other_carrier : (n : ℕ) → (g.carrier_of n ≡ c → ⊥) → (g.carrier_of n == c) ≡ false
  other_carrier n other = false_from_ne_true (g.carrier_of n == c) (λ t. other (is_number (g.carrier_of n) c t))

  pub forgotten-keeps : Valid rest
  forgotten-keeps = record {
    places = record {
      apart = λ n m l e f. v.places.apart n m l (was_there n l e).1 (was_there m l f).1;
      home = λ n x y e. v.places.home n x y (was_there n (slot x y) e).1;
      kept = λ n l e. let w = was_there n l e in filter_keeps (λ n. not (g.carrier_of n == c)) g.substrates n (v.places.kept n l w.1) (ap not w.0);
      slots = λ n m a b. v.places.slots n m (was_kept n a).0 (was_kept m b).0;
      distinct = filter_distinct (λ n. not (g.carrier_of n == c)) g.substrates v.places.distinct;
      given = λ n a. v.places.given n (was_kept n a).0;
      chambers = λ n d e. v.places.chambers n d (was_there n (chamber d) e).1;
    };
    carriers = record {
      present = λ n a. let w = was_kept n a in set_else c (g.carrier_of n) None g.present_at w.1 ∙ v.carriers.present n w.0;
      verified = λ n a. v.carriers.verified n (was_kept n a).0;
      alone = λ d e p a b. v.carriers.alone d e p (was_present d p a).1 (was_present e p b).1;
      known = λ d p a. let w = was_present d p a in filter_keeps (λ x. not (x == c)) g.carriers d (v.carriers.known d p w.1) (other_number d w.0);
    };
    commands = record {
      picks = λ m n l d e t. let s = v.commands.picks m n l d e t in record {
        robot = s.robot;
        stands = member_at n l (in_job m n d (pick n l) e t refl) s.stands;
        free = empty arm s.free;
        room = room_stays n s.room;
        from_slot = s.from_slot;
        from_aligner = s.from_aligner;
        from_chamber = s.from_chamber;
        not_arm = s.not_arm;
      };
      places = λ m n l d e t. let s = v.commands.places m n l d e t in record {
        robot = s.robot;
        stands = member_at n arm (in_job m n d (place n l) e t refl) s.stands;
        free = empty l s.free;
        to_slot = s.to_slot;
        to_aligner = s.to_aligner;
        to_chamber = s.to_chamber;
        not_arm = s.not_arm;
      };
      aligns = λ m n d e t. let s = v.commands.aligns m n d e t in record { its_module = s.its_module; stands = member_at n aligner (in_job m n d (align n) e t refl) s.stands; unaligned = s.unaligned };
      processes = λ m n d e t. let s = v.commands.processes m n d e t in (s.0, s.1, member_at n (chamber s.0) (in_job m n d (process n) e t refl) s.2, s.3, s.4);
      once = v.commands.once;
      numbers = v.commands.numbers;
      below = v.commands.below;
      room = λ n e. room_stays n (v.commands.room n (was_there n arm e).1);
      modules = v.commands.modules;
    };
    members = record {
      outside = λ n out. v.members.outside n (outside_was n out);
      named = v.members.named;
      starting = v.members.starting;
      kept = λ n is. filter_keeps (λ n. not (g.carrier_of n == c)) g.substrates n (v.members.kept n is) (ap not (not_its n is));
      carrier = v.members.carrier;
      here = v.members.here;
      complete = λ n is over. ap (λ (x : Option Loc). is_finished (g.processing n) && not (is_outside x)) (stays_there n (not_its n is)) ∙ v.members.complete n is over;
      left = v.members.left;
    };
    steps = record {
      aligned = λ n d e. v.steps.aligned n d (was_there n (chamber d) e).1;
      on_route = λ n d e u. v.steps.on_route n d (was_there n (chamber d) e).1 u;
      in_slot = λ n x y e u. v.steps.in_slot n x y (was_there n (slot x y) e).1 u;
      fresh = λ n a z. v.steps.fresh n (was_kept n a).0 z;
    };
    removed = λ n a gone. let w = was_kept n a in v.removed n w.0 (sym (stays_there n (other_carrier n w.1)) ∙ gone);
  } where
    outside_was : (n : ℕ) → is_outside (rest.place_of n) ≡ true → is_outside (g.place_of n) ≡ true
    outside_was n out = by (g.carrier_of n == c) out
      where
        by : (b : Bool) → is_outside (cond b None (g.place_of n)) ≡ true → is_outside (g.place_of n) ≡ true
        by true e = absurd (cc)
        by false e = e
