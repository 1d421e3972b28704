-- What a move is, and where none is.
use Rattle.std.proofs.Common.{◌≡◌, ℕ, ◌-◌, ◌==◌, Bool, true, false, true≢false, not, ◌&&◌, if◌then◌else◌, List, [], ◌∷◌, filter, Option, Some, None, option_map, refl, sym, ap, subst, ◌∙◌, arith}
use Rattle.std.proofs.lemmas.Bool.Decides.{nat_tests}
use Rattle.gem_tables.specs.Table.{is_one_of}
use Rattle.gem_ids.specs.declared.numbers.LocId.{LocId}
use Rattle.gem_ids.specs.declared.numbers.LocId.TheVariants.{Slot, Aligner, Arm, Chamber}
use Rattle.substrate.specs.Locations.{is_same, is_work_place}
use Rattle.robot_moves.specs.Modules.{module_at, is_idle}
use Rattle.robot_moves.specs.Moves.{holder, free_target, may_leave, is_useful, is_next, first_among, best_pick, pick_move, arm_move, robot_move, align_move, aligner_move, process_move, chamber_move, module_move}
use Rattle.robot_moves.specs.Best.{Rests, AllRest}
use Rattle.robot_moves.specs.declared.module.Module.{Module}
use Rattle.robot_moves.specs.declared.view.PlaceView.{PlaceView}
use Rattle.robot_moves.specs.declared.view.Move.{Move}

-- ---- what a move is

-- what is known of a move of the module of a number
pub record IsOf (number : ℕ) (modules : List Module) (m : Move) : Type 0 where
  pub idle : is_idle (module_at number modules) ≡ true
  pub own : m.«module».0 ≡ number
  pub one : is_one_of (1 ∷ 2 ∷ 3 ∷ 4 ∷ []) m.row ≡ true

where_idle : {A : Type 0} (b : Bool) (o : Option A) (x : A) → (if b then o else None) ≡ Some x → (b ≡ true) × (o ≡ Some x)
where_idle true o x e = (refl, e)
where_idle false o x e = absurd (cc)

mapped : {A B : Type 0} (f : A → B) (o : Option A) (y : B) → option_map f o ≡ Some y → (x : A) × (f x ≡ y)
mapped f None y e = absurd (cc)
mapped f (Some x) y e = let same : f x ≡ y = cc in (x, same)

arm_is : (views : List PlaceView) (modules : List Module) (o : Option PlaceView) (m : Move) → arm_move views modules o ≡ Some m → (m.«module».0 ≡ 1) × (is_one_of (1 ∷ 2 ∷ 3 ∷ 4 ∷ []) m.row ≡ true)
arm_is views modules (Some v) m e = let found = mapped _ (free_target views modules v) m e in (ap (λ (x : Move). x.«module».0) (sym found.1), ap (λ (x : Move). is_one_of (1 ∷ 2 ∷ 3 ∷ 4 ∷ []) x.row) (sym found.1))
arm_is views modules None m e = let found = mapped pick_move (best_pick views modules) m e in (ap (λ (x : Move). x.«module».0) (sym found.1), ap (λ (x : Move). is_one_of (1 ∷ 2 ∷ 3 ∷ 4 ∷ []) x.row) (sym found.1))

robot_is : (views : List PlaceView) (modules : List Module) (m : Move) → robot_move views modules ≡ Some m → IsOf 1 modules m
robot_is views modules m e =
    let parts = where_idle (is_idle (module_at 1 modules)) (arm_move views modules (holder Arm views)) m e in
    let is = arm_is views modules (holder Arm views) m parts.1 in
    record { idle = parts.0; own = is.0; one = is.1 }

align_is : (o : Option PlaceView) (m : Move) → align_move o ≡ Some m → (m.«module».0 ≡ 2) × (is_one_of (1 ∷ 2 ∷ 3 ∷ 4 ∷ []) m.row ≡ true)
align_is None m e = absurd (cc)
align_is (Some v) m e =
    let found = where_idle (not v.finished && not v.aligned) _ m e in
    (ap (λ (x : Option Move). number_of x) (sym found.1), ap (λ (x : Option Move). row_known x) (sym found.1))
  where
    number_of : Option Move → ℕ
    number_of None = 0
    number_of (Some x) = x.«module».0

    row_known : Option Move → Bool
    row_known None = true
    row_known (Some x) = is_one_of (1 ∷ 2 ∷ 3 ∷ 4 ∷ []) x.row

aligner_is : (views : List PlaceView) (modules : List Module) (m : Move) → aligner_move views modules ≡ Some m → IsOf 2 modules m
aligner_is views modules m e =
    let parts = where_idle (is_idle (module_at 2 modules)) (align_move (holder Aligner views)) m e in
    let is = align_is (holder Aligner views) m parts.1 in
    record { idle = parts.0; own = is.0; one = is.1 }

process_is : (number : ℕ) (o : Option PlaceView) (m : Move) → process_move number o ≡ Some m → (m.«module».0 ≡ number) × (is_one_of (1 ∷ 2 ∷ 3 ∷ 4 ∷ []) m.row ≡ true)
process_is number None m e = absurd (cc)
process_is number (Some v) m e =
    let found = where_idle (not v.finished && is_next v (number - 2)) _ m e in
    (ap (λ (x : Option Move). number_of x) (sym found.1), ap (λ (x : Option Move). row_known x) (sym found.1))
  where
    number_of : Option Move → ℕ
    number_of None = number
    number_of (Some x) = x.«module».0

    row_known : Option Move → Bool
    row_known None = true
    row_known (Some x) = is_one_of (1 ∷ 2 ∷ 3 ∷ 4 ∷ []) x.row

chamber_is : (number : ℕ) (views : List PlaceView) (modules : List Module) (m : Move) → chamber_move number views modules ≡ Some m → IsOf number modules m
chamber_is number views modules m e =
    let parts = where_idle (is_idle (module_at number modules)) (process_move number (holder (Chamber (number - 2)) views)) m e in
    let is = process_is number (holder (Chamber (number - 2)) views) m parts.1 in
    record { idle = parts.0; own = is.0; one = is.1 }

pub move_is : (number : ℕ) (views : List PlaceView) (modules : List Module) (m : Move) → module_move number views modules ≡ Some m → IsOf number modules m
move_is number views modules m e = by_robot (number == 1) (number == 2) refl refl e where
  by_robot : (first second : Bool) → (number == 1) ≡ first → (number == 2) ≡ second → (if first then robot_move views modules else (if second then aligner_move views modules else chamber_move number views modules)) ≡ Some m → IsOf number modules m
  by_robot true second one two g = let same : number ≡ 1 = grind (arith, nat_tests, one) in subst (λ (n : ℕ). IsOf n modules m) (sym same) (robot_is views modules m g)
  by_robot false true one two g = let same : number ≡ 2 = grind (arith, nat_tests, two) in subst (λ (n : ℕ). IsOf n modules m) (sym same) (aligner_is views modules m g)
  by_robot false false one two g = chamber_is number views modules m g

-- ---- where all rest

none_held : (loc : LocId) (views : List PlaceView) → is_work_place loc ≡ true → AllRest views → holder loc views ≡ None
none_held loc [] works rest = refl
none_held loc (v ∷ vs) works rest = rw (apart v.at loc rest.0.0 works) (none_held loc vs works rest.1) where
  apart : (at to : LocId) → is_work_place at ≡ false → is_work_place to ≡ true → is_same at to ≡ false
  apart (Slot p k) (Slot q m) still work = absurd (true≢false (sym work))
  apart (Slot p k) Aligner still work = refl
  apart (Slot p k) Arm still work = refl
  apart (Slot p k) (Chamber c) still work = refl
  apart Aligner to still work = absurd (true≢false still)
  apart Arm to still work = absurd (true≢false still)
  apart (Chamber c) to still work = absurd (true≢false still)

and_none : (a : Bool) → (a && false) ≡ false
and_none true = refl
and_none false = refl

stays : (modules : List Module) (v : PlaceView) (at : LocId) → is_work_place at ≡ false → v.may_start ≡ false → may_leave at modules v ≡ false
stays modules v (Slot p k) still starts = rw starts (and_none (is_same (Slot p k) v.slot && not v.finished))
stays modules v Aligner still starts = absurd (true≢false still)
stays modules v Arm still starts = absurd (true≢false still)
stays modules v (Chamber c) still starts = absurd (true≢false still)

not_useful : (views : List PlaceView) (modules : List Module) (v : PlaceView) → Rests v → is_useful views modules v ≡ false
not_useful views modules v rest = rw (stays modules v v.at rest.0 rest.1) refl

none_pass : (views : List PlaceView) (modules : List Module) (vs : List PlaceView) → AllRest vs → filter (is_useful views modules) vs ≡ []
none_pass views modules [] rest = refl
none_pass views modules (v ∷ vs) rest = rw (not_useful views modules v rest.0) (none_pass views modules vs rest.1)

no_pick : (views : List PlaceView) (modules : List Module) → AllRest views → best_pick views modules ≡ None
no_pick views modules rest = ap first_among (none_pass views modules views rest)

nothing_else : {A : Type 0} (b : Bool) (o : Option A) → o ≡ None → (if b then o else None) ≡ None
nothing_else true o e = e
nothing_else false o e = refl

robot_rests : (views : List PlaceView) (modules : List Module) → AllRest views → robot_move views modules ≡ None
robot_rests views modules rest =
    nothing_else (is_idle (module_at 1 modules)) (arm_move views modules (holder Arm views))
    (ap (arm_move views modules) (none_held Arm views refl rest) ∙ ap (option_map pick_move) (no_pick views modules rest))

aligner_rests : (views : List PlaceView) (modules : List Module) → AllRest views → aligner_move views modules ≡ None
aligner_rests views modules rest = nothing_else (is_idle (module_at 2 modules)) (align_move (holder Aligner views)) (ap align_move (none_held Aligner views refl rest))

chamber_rests : (number : ℕ) (views : List PlaceView) (modules : List Module) → AllRest views → chamber_move number views modules ≡ None
chamber_rests number views modules rest =
    nothing_else (is_idle (module_at number modules)) (process_move number (holder (Chamber (number - 2)) views)) (ap (process_move number) (none_held (Chamber (number - 2)) views refl rest))

pub nothing_moves : (number : ℕ) (views : List PlaceView) (modules : List Module) → AllRest views → module_move number views modules ≡ None
nothing_moves number views modules rest = of (number == 1) (number == 2) where
  of : (first second : Bool) → (if first then robot_move views modules else (if second then aligner_move views modules else chamber_move number views modules)) ≡ None
  of true second = robot_rests views modules rest
  of false true = aligner_rests views modules rest
  of false false = chamber_rests number views modules rest
