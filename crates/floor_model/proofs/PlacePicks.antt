-- The picks from the aligner and from the chambers, by who is there: those that are useful, and no others; and which of the chambers is
-- the last that has one.
use Rattle.std.specs.Option.{option_or}
use Rattle.std.proofs.Common.{◌≡◌, ℕ, zero, suc, ◌-◌, ◌<◌, ◌≤◌, nat_lt, nat_le, Bool, true, false, true≢false, cond, List, length, Option, Some, None, slice_get, refl, sym, ap, subst, ◌∙◌, arith}
use Rattle.std.proofs.lemmas.Bool.Decides.{nat_tests}
use Rattle.gem_ids.specs.declared.numbers.LocId.{LocId}
use Rattle.gem_ids.specs.declared.numbers.LocId.TheVariants.{Aligner, Chamber}
use Rattle.substrate.specs.Locations.{is_location}
use Rattle.substrate.specs.Places.{ArePlaces}
use Rattle.records.proofs.Truth.{and_true}
use Rattle.robot_moves.specs.Modules.{chamber_module, module_at, is_idle}
use Rattle.robot_moves.specs.Moves.{holder, may_leave, is_useful}
use Rattle.robot_moves.specs.declared.module.Module.{Module}
use Rattle.robot_moves.specs.declared.view.PlaceView.{PlaceView}
use Rattle.robot_moves.proofs.Least.{holder_there, holder_of}
use Rattle.floor_model.specs.Floor.{ToolFloor}
use Rattle.floor_model.specs.Views.{views}
use Rattle.floor_model.specs.Picks.{where_useful, pick_at, chamber_pick, last_of, aligner_pick}
use Rattle.floor_model.proofs.Behind.{none_past}
use Rattle.floor_model.proofs.Told.{views_apart, view_within}

-- ---- the last of several numbers that gives something

module _ (gives : ℕ → Option PlaceView) where
  -- none of the numbers behind one gives anything, up to another
  abbrev pub NoneBehind : ℕ → ℕ → Type 0
  NoneBehind number total = (m : ℕ) → number < m → m ≤ total → gives m ≡ None

  -- one more that gives nothing
  one_more : (number total : ℕ) → gives (suc total) ≡ None → NoneBehind number total → NoneBehind number (suc total)
  one_more number total none behind m past within = by_test (nat_le m total) refl where
    by_test : (t : Bool) → nat_le m total ≡ t → gives m ≡ None
    by_test true q = behind m past (grind (arith, nat_tests))
    by_test false q =
        let same : m ≡ suc total = grind (arith, nat_tests, within) in
        subst (λ (k : ℕ). gives k ≡ None) (sym same) none

  -- this number is the last, where it gives something
  pub last_here : (total : ℕ) (v : PlaceView) → gives (suc total) ≡ Some v → last_of gives (suc total) ≡ Some v
  last_here total v e = rw e refl

  -- the number before has its turn, where this one gives nothing
  pub last_before : (total : ℕ) → gives (suc total) ≡ None → last_of gives (suc total) ≡ last_of gives total
  last_before total e = rw e refl

  -- the last number that gives something, and what it gives
  pub record IsLast (total : ℕ) (v : PlaceView) : Type 0 where
    pub number : ℕ
    pub first : 1 ≤ number
    pub is : gives number ≡ Some v
    pub behind : NoneBehind number total

  pub last_is : (total : ℕ) (v : PlaceView) → last_of gives total ≡ Some v → IsLast total v
  last_is zero v e = absurd (cc)
  last_is (suc total) v e = of (gives (suc total)) refl e (last_is total v) where
    of : (o : Option PlaceView) → gives (suc total) ≡ o → option_or o (last_of gives total) ≡ Some v → (last_of gives total ≡ Some v → IsLast total v) → IsLast (suc total) v
    of None q f before =
        let last = before f in
        record { number = last.number; first = last.first; is = last.is; behind = one_more last.number total q last.behind }
    of (Some u) q f before =
        record { number = suc total; first = omega arith; is = q ∙ f; behind = λ m past within. absurd (omega (arith, past, within)) }

  pub last_none : (total : ℕ) → last_of gives total ≡ None → NoneBehind 0 total
  last_none zero e = λ m past within. absurd (omega (arith, past, within))
  last_none (suc total) e = of (gives (suc total)) refl e (last_none total) where
    of : (o : Option PlaceView) → gives (suc total) ≡ o → option_or o (last_of gives total) ≡ None → (last_of gives total ≡ None → NoneBehind 0 total) → NoneBehind 0 (suc total)
    of None q f before = one_more 0 total q (before f)
    of (Some u) q f before = absurd (cc)

-- ---- useful picks

pub where_found : (vs : List PlaceView) (ms : List Module) (o : Option PlaceView) (v : PlaceView) → where_useful vs ms o ≡ Some v → (o ≡ Some v) × (is_useful vs ms v ≡ true)
where_found vs ms None v e = absurd (cc)
where_found vs ms (Some w) v e = of (is_useful vs ms w) refl e where
  of : (b : Bool) → is_useful vs ms w ≡ b → cond b (Some w) None ≡ Some v → (Some w ≡ Some v) × (is_useful vs ms v ≡ true)
  of true q f =
      let same : w ≡ v = cc in
      (f, subst (λ (u : PlaceView). is_useful vs ms u ≡ true) same q)
  of false q f = absurd (cc)

pub where_is : (vs : List PlaceView) (ms : List Module) (o : Option PlaceView) (v : PlaceView) → o ≡ Some v → is_useful vs ms v ≡ true → where_useful vs ms o ≡ Some v
where_is vs ms o v e useful =
    let here : where_useful vs ms (Some v) ≡ Some v = rw useful refl in
    ap (where_useful vs ms) e ∙ here

-- what is picked at a place is there, and useful
pick_found : (number : ℕ) (loc : LocId) (vs : List PlaceView) (ms : List Module) (v : PlaceView) → pick_at number loc vs ms ≡ Some v → (holder loc vs ≡ Some v) × (is_useful vs ms v ≡ true)
pick_found number loc vs ms v e = of (is_idle (module_at number ms)) e where
  of : (b : Bool) → cond b (where_useful vs ms (holder loc vs)) None ≡ Some v → (holder loc vs ≡ Some v) × (is_useful vs ms v ≡ true)
  of true f = where_found vs ms (holder loc vs) v f
  of false f = absurd (cc)

-- what is at an Idle module, and useful, is picked there
pick_is : (number : ℕ) (loc : LocId) (vs : List PlaceView) (ms : List Module) (v : PlaceView) → is_idle (module_at number ms) ≡ true → holder loc vs ≡ Some v → is_useful vs ms v ≡ true → pick_at number loc vs ms ≡ Some v
pick_is number loc vs ms v idle held useful = rw idle (where_is vs ms (holder loc vs) v held useful)

-- what may leave, and is useful
pub useful_leaves : (vs : List PlaceView) (ms : List Module) (v : PlaceView) (l : LocId) → v.at ≡ l → is_useful vs ms v ≡ true → may_leave l ms v ≡ true
useful_leaves vs ms v l at useful = subst (λ (x : LocId). may_leave x ms v ≡ true) at (and_true (may_leave v.at ms v) _ useful).0

-- ---- the chambers and the aligner

-- a chamber has a number past 0
chamber_first : (ports chambers c : ℕ) → is_location ports chambers (Chamber c) ≡ true → 1 ≤ c
chamber_first ports chambers c h =
    let first = (and_true (nat_le 1 c) (nat_le c chambers) h).0 in
    grind (arith, nat_tests)

-- a number of an Idle module is one of a module
idle_within : (number : ℕ) (ms : List Module) → is_idle (module_at number ms) ≡ true → number ≤ length ms
idle_within number ms idle = by_test (nat_lt (length ms) number) refl where
  by_test : (t : Bool) → nat_lt (length ms) number ≡ t → number ≤ length ms
  by_test true q =
      let past : length ms < number = grind (arith, nat_tests) in
      absurd (true≢false (sym idle ∙ ap is_idle (none_past number ms past)))
  by_test false q = grind (arith, nat_tests)

-- a useful pick, and where it stands
pub record StandsAt (vs : List PlaceView) (ms : List Module) (l : LocId) (v : PlaceView) : Type 0 where
  pub there : (i : ℕ) × (slice_get vs i ≡ Some v)
  pub at : v.at ≡ l
  pub useful : is_useful vs ms v ≡ true

-- what is picked at a place stands there
pick_stands : (number : ℕ) (l : LocId) (vs : List PlaceView) (ms : List Module) (v : PlaceView) → pick_at number l vs ms ≡ Some v → StandsAt vs ms l v
pick_stands number l vs ms v e =
    let found = pick_found number l vs ms v e in
    let there = holder_there l vs v found.0 in
    record { there = there.0; at = there.1; useful = found.1 }

module _ (f : ToolFloor) (places : ArePlaces f.places) (ms : List Module) where
  -- what is useful at the aligner is picked there
  pub aligner_useful : (i : ℕ) (w : PlaceView) → slice_get (views f) i ≡ Some w → w.at ≡ Aligner → is_useful (views f) ms w ≡ true → aligner_pick (views f) ms ≡ Some w
  aligner_useful i w there at useful =
      let leaves = useful_leaves (views f) ms w Aligner at useful in
      let held = subst (λ (l : LocId). holder l (views f) ≡ Some w) at (holder_of (views f) i w (views_apart f places) there) in
      pick_is 2 Aligner (views f) ms w (and_true (is_idle (module_at 2 ms)) _ leaves).0 held useful

  pub aligner_stands : (v : PlaceView) → aligner_pick (views f) ms ≡ Some v → StandsAt (views f) ms Aligner v
  aligner_stands v e = pick_stands 2 Aligner (views f) ms v e

  -- a useful pick from a chamber, by the chamber's number
  pub record IsFromChamber (c : ℕ) (w : PlaceView) : Type 0 where
    pub first : 1 ≤ c
    pub last : c ≤ length ms - 2
    pub is : chamber_pick (views f) ms c ≡ Some w

  -- what is useful in a chamber is picked there
  pub chamber_useful : (i : ℕ) (w : PlaceView) (c : ℕ) → slice_get (views f) i ≡ Some w → w.at ≡ Chamber c → is_useful (views f) ms w ≡ true → IsFromChamber c w
  chamber_useful i w c there at useful =
      let inside = subst (λ (l : LocId). is_location f.places.ports f.places.chambers l ≡ true) at (view_within f places i w there) in
      let leaves = useful_leaves (views f) ms w (Chamber c) at useful in
      let idle : is_idle (module_at (chamber_module c) ms) ≡ true = (and_true (is_idle (module_at (chamber_module c) ms)) _ leaves).0 in
      let most : chamber_module c ≤ length ms = idle_within (chamber_module c) ms idle in
      let held = subst (λ (l : LocId). holder l (views f) ≡ Some w) at (holder_of (views f) i w (views_apart f places) there) in
      record {
        first = chamber_first f.places.ports f.places.chambers c inside;
        last = omega (arith, most);
        is = pick_is (chamber_module c) (Chamber c) (views f) ms w idle held useful;
      }

  pub chamber_stands : (c : ℕ) (v : PlaceView) → chamber_pick (views f) ms c ≡ Some v → StandsAt (views f) ms (Chamber c) v
  chamber_stands c v e = pick_stands (chamber_module c) (Chamber c) (views f) ms v e
