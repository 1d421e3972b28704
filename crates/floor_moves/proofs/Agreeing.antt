-- What holds of a floor holds of each that says the same of what is kept.
use Rattle.std.proofs.Common.{◌≡◌, ◌≤◌, ◌<◌, ℕ, Bool, true, false, not, ◌&&◌, ◌||◌, List, length, Option, Some, refl, sym, ap, subst, ◌∙◌}
use Rattle.gem_tables.specs.Table.{is_one_of}
use Rattle.floor_moves.specs.Floor.{Loc, slot, aligner, arm, chamber, named, Module, JobView, Floor, modules, own, is_outside, is_finished, step_at, next_step, is_done}
use Rattle.floor_moves.specs.Valid.{Empty, IsDistinct, HasRoom, Places, Carriers, Commands, Members, Steps, Valid}
use Rattle.floor_moves.specs.Agree.{SayAlike, Agree}

-- a view of process jobs says what it says
pub alike_same : (present_at : ℕ → Option ℕ) (v : JobView) → SayAlike present_at v v
alike_same present_at v = record {
  is_member = λ n. refl;
  may_start = λ n. refl;
  is_stopping = λ n. refl;
  is_aborting = λ n. refl;
  is_complete = λ n. refl;
  route_of = λ n. refl;
  names_carrier = λ c p here. refl;
  is_marked = λ c p here. refl;
}

module _ (g h : Floor) (a : Agree g h) where
  -- a place in the one is that in the other
  pub place_back : (n : ℕ) (p : Option Loc) → h.place_of n ≡ p → g.place_of n ≡ p
  place_back n p e = sym (a.place_of n) ∙ e

  place_on : (n : ℕ) (p : Option Loc) → g.place_of n ≡ p → h.place_of n ≡ p
  place_on n p e = a.place_of n ∙ e

  pub busy_back : (m : ℕ) (x : Module) → h.equipment m ≡ x → g.equipment m ≡ x
  busy_back m x e = sym (a.equipment m) ∙ e

  busy_on : (m : ℕ) (x : Module) → g.equipment m ≡ x → h.equipment m ≡ x
  busy_on m x e = a.equipment m ∙ e

  pub kept_back : (n : ℕ) → is_one_of h.substrates n ≡ true → is_one_of g.substrates n ≡ true
  kept_back n e = sym (ap (λ (ns : List ℕ). is_one_of ns n) a.substrates) ∙ e

  kept_on : (n : ℕ) → is_one_of g.substrates n ≡ true → is_one_of h.substrates n ≡ true
  kept_on n e = ap (λ (ns : List ℕ). is_one_of ns n) a.substrates ∙ e

  chamber_on : (c : ℕ) → is_one_of g.chambers c ≡ true → is_one_of h.chambers c ≡ true
  chamber_on c e = ap (λ (cs : List ℕ). is_one_of cs c) a.chambers ∙ e

  empty_on : (l : Loc) → Empty l g → Empty l h
  empty_on l free n at = free n (place_back n _ at)

  own_same : (n : ℕ) → is_one_of g.substrates n ≡ true → own n h ≡ own n g
  own_same n kept = ap (λ (p : ℕ). slot p (h.slot_of n)) (a.port_of n kept) ∙ ap (λ (k : ℕ). slot (g.port_of n) k) (a.slot_of n kept)

  pub finished_same : (n : ℕ) → is_one_of g.substrates n ≡ true → is_finished (h.processing n) ≡ is_finished (g.processing n)
  finished_same n kept = ap is_finished (a.processing n kept)

  unfinished_back : (n : ℕ) → is_one_of g.substrates n ≡ true → is_finished (h.processing n) ≡ false → is_finished (g.processing n) ≡ false
  unfinished_back n kept e = sym (finished_same n kept) ∙ e

  -- the next step of one that is unfinished
  pub next_same : (n : ℕ) → is_one_of g.substrates n ≡ true → is_finished (g.processing n) ≡ false → next_step n h ≡ next_step n g
  next_same n kept f = ap (λ (k : ℕ). step_at k (h.jobs.route_of n)) (a.steps_of n kept f) ∙ ap (step_at (g.steps_of n)) (a.jobs.route_of n)

  -- a chamber is in it, or isn't
  next_on : (n c : ℕ) (b : Bool) → is_one_of g.substrates n ≡ true → is_finished (g.processing n) ≡ false → is_one_of (next_step n g) c ≡ b → is_one_of (next_step n h) c ≡ b
  next_on n c b kept f e = ap (λ (cs : List ℕ). is_one_of cs c) (next_same n kept f) ∙ e

  room_on : (n : ℕ) → is_one_of g.substrates n ≡ true → HasRoom n g → HasRoom n h
  room_on n kept room e =
      let f = unfinished_back n kept e in
      let old = room f in
      record {
        at_aligner = λ not_yet. empty_on aligner (old.at_aligner (sym (a.is_aligned n kept) ∙ not_yet));
        in_chamber = λ is. let c = old.in_chamber (sym (a.is_aligned n kept) ∙ is) in
            (c.0, next_on n c.0 true kept f c.1, chamber_on c.0 c.2, empty_on (chamber c.0) c.3);
      }

  places_on : Places g → Places h
  places_on v = record {
    apart = λ n m l e f. v.apart n m l (place_back n _ e) (place_back m _ f);
    home = λ n p k e. let at = place_back n _ e in v.home n p k at ∙ sym (own_same n (v.kept n _ at));
    kept = λ n l e. kept_on n (v.kept n l (place_back n _ e));
    slots = λ n m e f same. let i = kept_back n e in let j = kept_back m f in v.slots n m i j (sym (own_same n i) ∙ same ∙ own_same m j);
    distinct = subst IsDistinct (sym a.substrates) v.distinct;
    given = λ n e. subst (λ (k : ℕ). n < k) (sym a.next_substrate) (v.given n (kept_back n e));
    chambers = λ n c e. chamber_on c (v.chambers n c (place_back n _ e));
  }

  carriers_on : Carriers g → Carriers h
  carriers_on v = record {
    present = λ n e. let i = kept_back n e in present n i;
    verified = λ n e. let i = kept_back n e in
        ap h.is_verified (a.carrier_of n i) ∙ a.is_verified (g.carrier_of n) (v.known (g.carrier_of n) (g.port_of n) (v.present n i)) ∙ v.verified n i;
    alone = λ c d p e f. v.alone c d p (sym (a.present_at c) ∙ e) (sym (a.present_at d) ∙ f);
    known = λ c p e. ap (λ (cs : List ℕ). is_one_of cs c) a.carriers ∙ v.known c p (sym (a.present_at c) ∙ e);
  } where
    present : (n : ℕ) → is_one_of g.substrates n ≡ true → h.present_at (h.carrier_of n) ≡ Some (h.port_of n)
    present n i = ap h.present_at (a.carrier_of n i) ∙ a.present_at (g.carrier_of n) ∙ v.present n i ∙ ap (λ (p : ℕ). Some p) (sym (a.port_of n i))

  commands_on : Places g → Commands g → Commands h
  commands_on p v = record {
    picks = λ m n l c e t. let s = v.picks m n l c (busy_back m _ e) t in let i = p.kept n l s.stands in record {
      robot = s.robot;
      stands = place_on n _ s.stands;
      free = empty_on arm s.free;
      room = room_on n i s.room;
      from_slot = λ q k is. finished_same n i ∙ s.from_slot q k is;
      from_aligner = λ is. ap (λ (b : Bool). b || h.is_aligned n) (finished_same n i) ∙ ap (λ (b : Bool). is_finished (g.processing n) || b) (a.is_aligned n i) ∙ s.from_aligner is;
      from_chamber = λ d is u. let f = unfinished_back n i u in next_on n d false i f (s.from_chamber d is f);
      not_arm = s.not_arm;
    };
    places = λ m n l c e t. let s = v.places m n l c (busy_back m _ e) t in let i = p.kept n arm s.stands in record {
      robot = s.robot;
      stands = place_on n _ s.stands;
      free = empty_on l s.free;
      to_slot = λ q k is. let old = s.to_slot q k is in (old.0 ∙ sym (own_same n i), finished_same n i ∙ old.1);
      to_aligner = λ is. a.is_aligned n i ∙ s.to_aligner is;
      to_chamber = λ d is. let old = s.to_chamber d is in (chamber_on d old.0, a.is_aligned n i ∙ old.1, λ u. let f = unfinished_back n i u in next_on n d true i f (old.2 f));
      not_arm = s.not_arm;
    };
    aligns = λ m n c e t. let s = v.aligns m n c (busy_back m _ e) t in
        record { its_module = s.its_module; stands = place_on n _ s.stands; unaligned = a.is_aligned n (p.kept n aligner s.stands) ∙ s.unaligned };
    processes = λ m n c e t. let s = v.processes m n c (busy_back m _ e) t in let i = p.kept n (chamber s.0) s.2 in
        (s.0, s.1, place_on n _ s.2, finished_same n i ∙ s.3, next_on n s.0 true i s.3 s.4);
    once = λ m k c d e f same. v.once m k c d (busy_back m _ e) (busy_back k _ f) same;
    numbers = λ m k c d e f same. v.numbers m k c d (busy_back m _ e) (busy_back k _ f) same;
    below = λ m c e. subst (λ (k : ℕ). c.number < k) (sym a.next_command) (v.below m c (busy_back m _ e));
    room = λ n e. let at = place_back n _ e in room_on n (p.kept n arm at) (v.room n at);
    modules = λ m c e. ap (λ (cs : List ℕ). is_one_of (modules (record h { chambers = cs })) m) a.chambers ∙ v.modules m c (busy_back m _ e);
  }

  members_on : Carriers g → Members g → Members h
  members_on r v = record {
    outside = λ n e. member_on n (v.outside n (sym (ap is_outside (a.place_of n)) ∙ e));
    named = λ m c e. member_on (named c.task) (v.named m c (busy_back m _ e));
    starting = λ n e. member_on n (v.starting n (sym (a.jobs.may_start n) ∙ e));
    kept = λ n e. kept_on n (v.kept n (member_back n e));
    carrier = λ n e. carrier n (member_back n e);
    here = λ n e. let i = v.kept n (member_back n e) in subst (λ (k : ℕ). k ≤ 1) (sym (access_same n i)) (v.here n (member_back n e));
    complete = λ n e over. let i = member_back n e in done_same n (v.kept n i) ∙ v.complete n i (sym (a.jobs.is_complete n) ∙ over);
    left = λ n e u. let i = member_back n e in left n (v.kept n i) i (unfinished_back n (v.kept n i) u);
  } where
    member_on : (n : ℕ) → g.jobs.is_member n ≡ true → h.jobs.is_member n ≡ true
    member_on n e = a.jobs.is_member n ∙ e

    member_back : (n : ℕ) → h.jobs.is_member n ≡ true → g.jobs.is_member n ≡ true
    member_back n e = sym (a.jobs.is_member n) ∙ e

    left : (n : ℕ) → is_one_of g.substrates n ≡ true → g.jobs.is_member n ≡ true → is_finished (g.processing n) ≡ false → h.steps_of n < length (h.jobs.route_of n)
    left n i is f =
        subst (λ (k : ℕ). k < length (h.jobs.route_of n)) (sym (a.steps_of n i f))
        (subst (λ (r : List (List ℕ)). g.steps_of n < length r) (sym (a.jobs.route_of n)) (v.left n is f))

    carrier : (n : ℕ) → g.jobs.is_member n ≡ true → h.jobs.names_carrier (h.carrier_of n) ≡ true
    carrier n e =
        let i = v.kept n e in
        ap h.jobs.names_carrier (a.carrier_of n i)
        ∙ a.jobs.names_carrier (g.carrier_of n) (g.port_of n) (r.present n i)
        ∙ v.carrier n e

    access_same : (n : ℕ) → is_one_of g.substrates n ≡ true → h.access (h.carrier_of n) ≡ g.access (g.carrier_of n)
    access_same n i = ap h.access (a.carrier_of n i) ∙ a.access (g.carrier_of n) (r.known (g.carrier_of n) (g.port_of n) (r.present n i))

    done_same : (n : ℕ) → is_one_of g.substrates n ≡ true → is_done n h ≡ is_done n g
    done_same n i = ap (λ (b : Bool). b && not (is_outside (h.place_of n))) (finished_same n i) ∙ ap (λ (p : Option Loc). is_finished (g.processing n) && not (is_outside p)) (a.place_of n)

  steps_on : Places g → Steps g → Steps h
  steps_on p v = record {
    aligned = λ n c e. let at = place_back n _ e in a.is_aligned n (p.kept n (chamber c) at) ∙ v.aligned n c at;
    on_route = λ n c e u. let at = place_back n _ e in let i = p.kept n (chamber c) at in let f = unfinished_back n i u in let w = v.on_route n c at f in
        (w.0, subst (λ (k : ℕ). w.0 ≤ k) (sym (a.steps_of n i f)) w.1, ap (λ (r : List (List ℕ)). is_one_of (step_at w.0 r) c) (a.jobs.route_of n) ∙ w.2);
    in_slot = λ n q k e u. let at = place_back n _ e in let i = p.kept n (slot q k) at in a.processing n i ∙ v.in_slot n q k at (unfinished_back n i u);
    fresh = λ n e z. let i = kept_back n e in let needs = sym (a.processing n i) ∙ z in a.steps_of n i (ap is_finished needs) ∙ v.fresh n i needs;
  }

  pub agree-keeps : Valid g → Valid h
  agree-keeps v = record {
    places = places_on v.places;
    carriers = carriers_on v.carriers;
    commands = commands_on v.places v.commands;
    members = members_on v.carriers v.members;
    steps = steps_on v.places v.steps;
    removed = λ n e gone. let i = kept_back n e in finished_same n i ∙ v.removed n i (place_back n _ gone);
  }
