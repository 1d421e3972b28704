-- The pick from the slots, by the substrates in the order of their registration.
use Rattle.std.proofs.Common.{◌≡◌, ℕ, zero, suc, ◌+◌, ◌==◌, ◌<◌, ◌≤◌, nat_lt, Bool, true, false, true≢false, cond, not, ◌&&◌, ◌||◌, List, [], ◌∷◌, length, drop, find, Option, Some, None, is_some, option_map, slice_get, refl, sym, ap, subst, ◌∙◌, arith}
use Rattle.std.specs.Option.{option_or}
use Rattle.std.proofs.lemmas.Bool.Decides.{nat_tests, Decides-eqb}
use Rattle.records.proofs.Scans.{drop_here, drop_past, drop_end}
use Rattle.gem_ids.specs.declared.numbers.LocId.{LocId}
use Rattle.gem_ids.specs.declared.numbers.LocId.TheVariants.{Slot, Aligner, Arm, Chamber}
use Rattle.substrate.specs.Locations.{is_same, is_work_place}
use Rattle.substrate.specs.Places.{ArePlaces, stands_at}
use Rattle.substrate.specs.Record.{is_finished}
use Rattle.substrate.specs.declared.registered.Registered.{Registered}
use Rattle.substrate.proofs.Sites.{same_is}
use Rattle.records.proofs.Truth.{and_true, not_true}
use Rattle.robot_moves.specs.Moves.{holder, is_free, free_target, may_leave, is_useful}
use Rattle.robot_moves.specs.declared.module.Module.{Module}
use Rattle.robot_moves.specs.declared.view.PlaceView.{PlaceView}
use Rattle.robot_moves.proofs.Least.{holder_there}
use Rattle.tool_jobs.specs.Jobs.{Jobs}
use Rattle.floor_model.specs.declared.tracked.Substrate.{Substrate}
use Rattle.floor_model.specs.Floor.{ToolFloor, substrate_numbered}
use Rattle.floor_model.specs.Floor.{RiseTo}
use Rattle.floor_model.specs.Jobs.{job_of, is_job_so, is_processing}
use Rattle.floor_model.specs.Views.{views}
use Rattle.floor_model.specs.Picks.{told, told_of, told_there, told_in_slot, where_useful, may_be_picked, slot_pick, first_given, first_in_slot}
use Rattle.floor_model.proofs.Scans.{rises_to, numbered_at}
use Rattle.floor_model.proofs.Told.{holder_is, view_is, place_found}
use Rattle.floor_model.proofs.PlacePicks.{where_is, where_found, useful_leaves}

-- ---- the first of several that gives something

module _ (gives : Substrate → Option PlaceView) where
  pub given_here : (ss : List Substrate) (place : ℕ) (s : Substrate) (v : PlaceView) → slice_get ss place ≡ Some s → gives s ≡ Some v → first_given gives (drop place ss) ≡ Some v
  given_here ss place s v e g = rw (drop_here ss place s e, g) refl

  pub given_next : (ss : List Substrate) (place : ℕ) (s : Substrate) → slice_get ss place ≡ Some s → gives s ≡ None → first_given gives (drop place ss) ≡ first_given gives (drop (place + 1) ss)
  given_next ss place s e g = rw (drop_here ss place s e, g) refl

  pub given_past : (ss : List Substrate) (place : ℕ) → slice_get ss place ≡ None → first_given gives (drop place ss) ≡ first_given gives (drop (place + 1) ss)
  given_past ss place e = ap (λ (xs : List Substrate). first_given gives xs) (drop_past ss place e)

  pub given_end : (ss : List Substrate) (place : ℕ) → length ss ≤ place → first_given gives (drop place ss) ≡ None
  given_end ss place l = ap (λ (xs : List Substrate). first_given gives xs) (drop_end ss place l)

  -- where the first gives something
  record IsFirst (ss : List Substrate) (v : PlaceView) : Type 0 where
    place : ℕ
    s : Substrate
    at : slice_get ss place ≡ Some s
    is : gives s ≡ Some v
    before : (j : ℕ) (t : Substrate) → j < place → slice_get ss j ≡ Some t → gives t ≡ None

  first_is : (ss : List Substrate) (v : PlaceView) → first_given gives ss ≡ Some v → IsFirst ss v
  first_is [] v e = absurd (cc)
  first_is (s ∷ ss) v e = of (gives s) refl e (first_is ss v) where
    front : gives s ≡ None → (later : IsFirst ss v) (j : ℕ) (t : Substrate) → j < suc later.place → slice_get (s ∷ ss) j ≡ Some t → gives t ≡ None
    front q later zero t l g = let same : s ≡ t = cc in subst (λ (x : Substrate). gives x ≡ None) same q
    front q later (suc j) t l g = later.before j t (omega (arith, l)) g

    of : (o : Option PlaceView) → gives s ≡ o → option_or o (first_given gives ss) ≡ Some v → (first_given gives ss ≡ Some v → IsFirst ss v) → IsFirst (s ∷ ss) v
    of (Some u) q f later = record { place = 0; s = s; at = refl; is = q ∙ f; before = λ j t l g. absurd (omega (arith, l)) }
    of None q f later =
        let behind = later f in
        record { place = suc behind.place; s = behind.s; at = behind.at; is = behind.is; before = λ j t l g. front q behind j t l g }

  none_gives : (ss : List Substrate) → first_given gives ss ≡ None → (j : ℕ) (t : Substrate) → slice_get ss j ≡ Some t → gives t ≡ None
  none_gives [] e j t at = absurd (cc)
  none_gives (s ∷ ss) e j t at = of (gives s) refl e j at (λ f k g. none_gives ss f k t g) where
    of : (o : Option PlaceView) → gives s ≡ o → option_or o (first_given gives ss) ≡ None → (k : ℕ) → slice_get (s ∷ ss) k ≡ Some t
        → (first_given gives ss ≡ None → (i : ℕ) → slice_get ss i ≡ Some t → gives t ≡ None) → gives t ≡ None
    of (Some u) q f k g later = absurd (cc)
    of None q f zero g later = let same : s ≡ t = cc in subst (λ (x : Substrate). gives x ≡ None) same q
    of None q f (suc k) g later = later f k g

-- ---- the substrates by their numbers

-- one that is found by its number has a place, and the number
numbered_place : (n : ℕ) (ss : List Substrate) (s : Substrate) → substrate_numbered n ss ≡ Some s → ((k : ℕ) × (slice_get ss k ≡ Some s)) × (s.number ≡ n)
numbered_place n [] s e = absurd (cc)
numbered_place n (t ∷ ts) s e = of (t.number == n) refl e (numbered_place n ts s) where
  of : (b : Bool) → (t.number == n) ≡ b → cond b (Some t) (substrate_numbered n ts) ≡ Some s → (substrate_numbered n ts ≡ Some s → ((k : ℕ) × (slice_get ts k ≡ Some s)) × (s.number ≡ n)) → ((k : ℕ) × (slice_get (t ∷ ts) k ≡ Some s)) × (s.number ≡ n)
  of true q f later =
      let same : t ≡ s = cc in
      ((0, f), subst (λ (x : Substrate). x.number ≡ n) same ((Decides-eqb t.number n).0 q))
  of false q f later = let found = later f in ((suc found.0.0, found.0.1), found.1)

-- of two the one that stands first has the lesser number
in_order : (last given : ℕ) (ss : List Substrate) (j k : ℕ) (s t : Substrate) → RiseTo last given ss → slice_get ss j ≡ Some s → slice_get ss k ≡ Some t → j ≤ k → s.number ≤ t.number
in_order last given [] j k s t rise a b l = absurd (cc)
in_order last given (x ∷ xs) zero zero s t rise a b l =
    let first : x ≡ s = cc in
    let second : x ≡ t = cc in
    let same = ap (λ (y : Substrate). y.number) (sym first ∙ second) in
    omega (arith, same)
in_order last given (x ∷ xs) zero (suc k) s t rise a b l =
    let first : x ≡ s = cc in
    let same = ap (λ (y : Substrate). y.number) first in
    let later = rises_to x.number given xs k t rise.1 b in
    omega (arith, same, later)
in_order last given (x ∷ xs) (suc j) zero s t rise a b l = absurd (omega (arith, l))
in_order last given (x ∷ xs) (suc j) (suc k) s t rise a b l = in_order x.number given xs j k s t rise.1 a b (omega (arith, l))

-- ---- a substrate in its slot

-- it is told of as the one that was found there
there_is : (s : Substrate) (w : Jobs) (o : Option Registered) (v : PlaceView) → told_there s w o ≡ Some v → (r : Registered) × (o ≡ Some r) × (r.number ≡ s.number) × (told w r s ≡ v)
there_is s w None v e = absurd (cc)
there_is s w (Some r) v e = of (r.number == s.number) refl e where
  of : (b : Bool) → (r.number == s.number) ≡ b → cond b (Some (told w r s)) None ≡ Some v → (x : Registered) × (Some r ≡ Some x) × (x.number ≡ s.number) × (told w x s ≡ v)
  of true q f = let same : told w r s ≡ v = cc in (r, refl, (Decides-eqb r.number s.number).0 q, same)
  of false q f = absurd (cc)

is_there : (s : Substrate) (w : Jobs) (o : Option Registered) (r : Registered) → o ≡ Some r → s.number ≡ r.number → told_there s w o ≡ Some (told w r s)
is_there s w o r e number =
    let own : (r.number == s.number) ≡ true = (Decides-eqb r.number s.number).1 (sym number) in
    let here : told_there s w (Some r) ≡ Some (told w r s) = rw own refl in
    ap (told_there s w) e ∙ here

-- who is found at a place is there
found_at : (loc : LocId) (rs : List Registered) (r : Registered) → find (stands_at loc) rs ≡ Some r → r.at ≡ loc
found_at loc [] r e = absurd (cc)
found_at loc (x ∷ xs) r e = of (stands_at loc x) refl e (found_at loc xs r) where
  of : (b : Bool) → stands_at loc x ≡ b → cond b (Some x) (find (stands_at loc) xs) ≡ Some r → (find (stands_at loc) xs ≡ Some r → r.at ≡ loc) → r.at ≡ loc
  of true q f later =
      let same : x ≡ r = cc in
      subst (λ (y : Registered). y.at ≡ loc) same (same_is x.at loc q)
  of false q f later = later f

-- ---- what can't be picked

useless : (vs : List PlaceView) (ms : List Module) (p : LocId) (v : PlaceView) → v.at ≡ p → (may_leave p ms v && is_some (free_target vs ms v)) ≡ false → is_useful vs ms v ≡ false
useless vs ms p v at e = subst (λ (l : LocId). (may_leave l ms v && is_some (free_target vs ms v)) ≡ false) (sym at) e

no_and : (b : Bool) → (b && false) ≡ false
no_and true = refl
no_and false = refl

module _ (vs : List PlaceView) (ms : List Module) (v : PlaceView) where
  finished_stays : (l : LocId) → is_work_place l ≡ false → v.finished ≡ true → may_leave l ms v ≡ false
  finished_stays (Slot p k) rests done = rw (done, no_and (is_same (Slot p k) v.slot)) refl
  finished_stays Aligner rests done = absurd (true≢false rests)
  finished_stays Arm rests done = absurd (true≢false rests)
  finished_stays (Chamber c) rests done = absurd (true≢false rests)

  unstarted_stays : (l : LocId) → is_work_place l ≡ false → v.may_start ≡ false → may_leave l ms v ≡ false
  unstarted_stays (Slot p k) rests idle = rw (idle, no_and (is_same (Slot p k) v.slot && not v.finished)) refl
  unstarted_stays Aligner rests idle = absurd (true≢false rests)
  unstarted_stays Arm rests idle = absurd (true≢false rests)
  unstarted_stays (Chamber c) rests idle = absurd (true≢false rests)

  no_target : v.finished ≡ false → v.aligned ≡ false → is_free vs ms Aligner ≡ false → free_target vs ms v ≡ None
  no_target unfinished unaligned taken = rw (unfinished, unaligned, taken) refl

  -- it isn't useful for one of these causes
  by_causes : (l : LocId) → v.at ≡ l → is_work_place l ≡ false → (finished aligned aligner started : Bool) → v.finished ≡ finished → v.aligned ≡ aligned → is_free vs ms Aligner ≡ aligner → v.may_start ≡ started
      → ((not finished && (aligned || aligner)) && started) ≡ false → is_useful vs ms v ≡ false
  by_causes l at rests true aligned aligner started d a g s none =
      useless vs ms l v at (rw (finished_stays l rests d) refl)
  by_causes l at rests false aligned aligner false d a g s none =
      useless vs ms l v at (rw (unstarted_stays l rests s) refl)
  by_causes l at rests false true aligner true d a g s none = absurd (true≢false none)
  by_causes l at rests false false true true d a g s none = absurd (true≢false none)
  by_causes l at rests false false false true d a g s none =
      useless vs ms l v at (rw (no_target d a g) (no_and (may_leave l ms v)))

where_useless : (vs : List PlaceView) (ms : List Module) (o : Option PlaceView) → ((v : PlaceView) → o ≡ Some v → is_useful vs ms v ≡ false) → where_useful vs ms o ≡ None
where_useless vs ms None h = refl
where_useless vs ms (Some v) h = rw (h v refl) refl

pub not_picked : (f : ToolFloor) (ms : List Module) (s : Substrate) (aligner : Bool) → aligner ≡ is_free (views f) ms Aligner → may_be_picked aligner s f.jobs ≡ false → slot_pick s f ms ≡ None
not_picked f ms s aligner free none = of (is_work_place s.slot) refl none where
  of : (b : Bool) → is_work_place s.slot ≡ b
      → (((not b && not (is_finished s.states.processing)) && (s.aligned || aligner)) && is_job_so is_processing (job_of s f.jobs)) ≡ false
      → cond b None (where_useful (views f) ms (told_in_slot s f)) ≡ None
  of true q e = refl
  of false q e = where_useless (views f) ms (told_in_slot s f) (λ v told_is. useless_there v told_is) where
    useless_there : (v : PlaceView) → told_in_slot s f ≡ Some v → is_useful (views f) ms v ≡ false
    useless_there v told_is =
        let there = there_is s f.jobs (find (stands_at s.slot) f.places.held) v told_is in
        let found : find (stands_at s.slot) f.places.held ≡ Some there.0 = there.1 in
        let at : there.0.at ≡ s.slot = found_at s.slot f.places.held there.0 found in
        subst (λ (x : PlaceView). is_useful (views f) ms x ≡ false) there.3
        (
        by_causes (views f) ms (told f.jobs there.0 s) s.slot at q (is_finished s.states.processing) s.aligned aligner (is_job_so is_processing (job_of s f.jobs)) refl refl (sym free) refl e
        )

-- and what can be is where that is useful
pub picked_where : (f : ToolFloor) (ms : List Module) (s : Substrate) (aligner : Bool) (o : Option PlaceView) → o ≡ told_in_slot s f → may_be_picked aligner s f.jobs ≡ true → where_useful (views f) ms o ≡ slot_pick s f ms
picked_where f ms s aligner o e may =
    let unfinished = and_true (not (is_work_place s.slot) && not (is_finished s.states.processing)) (s.aligned || aligner) (and_true _ (is_job_so is_processing (job_of s f.jobs)) may).0 in
    let rests : is_work_place s.slot ≡ false = not_true _ (and_true (not (is_work_place s.slot)) (not (is_finished s.states.processing)) unfinished.0).0 in
    let same : slot_pick s f ms ≡ where_useful (views f) ms (told_in_slot s f) = rw rests refl in
    ap (where_useful (views f) ms) e ∙ sym same

-- ---- the pick from the slots

-- what may leave a slot is in its own
in_slot : (l : LocId) (ms : List Module) (v : PlaceView) → is_work_place l ≡ false → may_leave l ms v ≡ true → l ≡ v.slot
in_slot (Slot p k) ms v rests leaves =
    let parts = and_true (is_same (Slot p k) v.slot && not v.finished) v.may_start leaves in
    same_is (Slot p k) v.slot (and_true (is_same (Slot p k) v.slot) (not v.finished) parts.0).0
in_slot Aligner ms v rests leaves = absurd (true≢false rests)
in_slot Arm ms v rests leaves = absurd (true≢false rests)
in_slot (Chamber c) ms v rests leaves = absurd (true≢false rests)

-- one is picked by a substrate
pub record IsPicked (f : ToolFloor) (ms : List Module) (w : PlaceView) : Type 0 where
  place : ℕ
  s : Substrate
  at : slice_get f.substrates place ≡ Some s
  number : s.number ≡ w.number
  is : slot_pick s f ms ≡ Some w

-- where none is picked from a slot, none is picked by a substrate
pub slot_none : (f : ToolFloor) (ms : List Module) → first_in_slot f ms ≡ None → (w : PlaceView) → IsPicked f ms w → ⊥
slot_none f ms e w picked =
    let none = none_gives (λ (s : Substrate). slot_pick s f ms) f.substrates e picked.place picked.s picked.at in
    let some = picked.is in
    cc

module _ (f : ToolFloor) (places : ArePlaces f.places) (ms : List Module) where
  -- what is useful in a slot is picked by its substrate
  pub picked_by : (i : ℕ) (w : PlaceView) → slice_get (views f) i ≡ Some w → is_work_place w.at ≡ false → is_useful (views f) ms w ≡ true → IsPicked f ms w
  picked_by i w at rests useful =
      let t = view_is f places i w at in
      let slot = in_slot w.at ms w rests (useful_leaves (views f) ms w w.at refl useful) in
      let found = numbered_place t.r.number f.substrates t.s t.kept in
      let place : t.r.at ≡ w.at = ap (λ (x : PlaceView). x.at) t.is in
      let own : t.s.slot ≡ w.slot = ap (λ (x : PlaceView). x.slot) t.is in
      let stands : t.r.at ≡ t.s.slot = place ∙ slot ∙ sym own in
      let there : find (stands_at t.s.slot) f.places.held ≡ Some t.r =
      subst (λ (l : LocId). find (stands_at l) f.places.held ≡ Some t.r) stands (place_found f places t.place t.r t.held) in
      let told_is : told_in_slot t.s f ≡ Some w =
      is_there t.s f.jobs (find (stands_at t.s.slot) f.places.held) t.r there found.1 ∙ ap (λ (x : PlaceView). Some x) t.is in
      let home : is_work_place t.s.slot ≡ false = subst (λ (l : LocId). is_work_place l ≡ false) (sym place ∙ stands) rests in
      record {
        place = found.0.0;
        s = t.s;
        at = found.0.1;
        number = found.1 ∙ ap (λ (x : PlaceView). x.number) t.is;
        is = rw home (where_is (views f) ms (told_in_slot t.s f) w told_is useful);
      }

module _ (f : ToolFloor) (places : ArePlaces f.places) (ms : List Module) (given : ℕ) (numbers : RiseTo 0 given f.substrates) where
  abbrev gives : Substrate → Option PlaceView
  gives s = slot_pick s f ms

  -- a useful pick from a slot
  pub record IsInSlot (v : PlaceView) : Type 0 where
    pub there : (i : ℕ) × (slice_get (views f) i ≡ Some v)
    pub rests : is_work_place v.at ≡ false
    pub useful : is_useful (views f) ms v ≡ true

  -- what is picked by a substrate is one, with its number
  useful_by : (k : ℕ) (s : Substrate) (v : PlaceView) → slice_get f.substrates k ≡ Some s → gives s ≡ Some v → IsInSlot v × (v.number ≡ s.number)
  useful_by k s v at e = of (is_work_place s.slot) refl e where
    of : (b : Bool) → is_work_place s.slot ≡ b → cond b None (where_useful (views f) ms (told_in_slot s f)) ≡ Some v → IsInSlot v × (v.number ≡ s.number)
    of true q g = absurd (cc)
    of false q g =
        let useful = where_found (views f) ms (told_in_slot s f) v g in
        let there = there_is s f.jobs (find (stands_at s.slot) f.places.held) v useful.0 in
        let kept : substrate_numbered there.0.number f.substrates ≡ Some s =
        subst (λ (n : ℕ). substrate_numbered n f.substrates ≡ Some s) (sym there.2) (numbered_at 0 given f.substrates k s numbers at) in
        let held : holder s.slot (views f) ≡ Some v =
        holder_is f places s.slot ∙ ap (λ (o : Option Registered). told_of o f) there.1 ∙ ap (λ (o : Option Substrate). told_as there.0 o) kept ∙ ap (λ (x : PlaceView). Some x) there.3 in
        let place = holder_there s.slot (views f) v held in (
          record { there = place.0; rests = subst (λ (l : LocId). is_work_place l ≡ false) (sym place.1) q; useful = useful.1 },
          ap (λ (x : PlaceView). x.number) (sym there.3) ∙ there.2,
        )
      where
        told_as : Registered → Option Substrate → Option PlaceView
        told_as r o = option_map (told f.jobs r) o

  -- the first that is picked from a slot has the least number of those that are picked by substrates
  pub slot_first : (v : PlaceView) → first_in_slot f ms ≡ Some v → IsInSlot v × ((w : PlaceView) → IsPicked f ms w → v.number ≤ w.number)
  slot_first v e =
      let first = first_is gives f.substrates v e in
      let own = useful_by first.place first.s v first.at first.is in
      (own.0, λ w picked. by_place first own.1 w picked (nat_lt picked.place first.place) refl)
    where
      by_place : (first : IsFirst gives f.substrates v) → v.number ≡ first.s.number → (w : PlaceView) (picked : IsPicked f ms w) (t : Bool) → nat_lt picked.place first.place ≡ t → v.number ≤ w.number
      by_place first left w picked true q =
          let less : picked.place < first.place = grind (arith, nat_tests) in
          let none = first.before picked.place picked.s less picked.at in
          let some = picked.is in
          absurd (cc)
      by_place first left w picked false q =
          let behind : first.place ≤ picked.place = grind (arith, nat_tests) in
          let order = in_order 0 given f.substrates first.place picked.place first.s picked.s numbers first.at picked.at behind in
          let right = picked.number in
          omega (arith, order, left, right)
