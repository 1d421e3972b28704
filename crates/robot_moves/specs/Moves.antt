-- What the tool has its modules do next (this tool's profile, moves).
use Rattle.std.specs.Prelude.{ℕ, zero, suc, ◌+◌, ◌-◌, ◌==◌, nat_lt, nat_le, Bool, false, not, ◌&&◌, ◌||◌, if◌then◌else◌, List, [], ◌∷◌, length, filter, find, Option, Some, None, is_some, option_map}
use Rattle.std.specs.List.{list_any}
use Rattle.std.specs.Option.{option_or}
use Rattle.gem_ids.specs.declared.numbers.LocId.{LocId}
use Rattle.gem_ids.specs.declared.numbers.LocId.TheVariants.{Slot, Aligner, Arm, Chamber}
use Rattle.tool_tasks.specs.Chambers.{has_chamber}
use Rattle.tool_tasks.specs.declared.task.Task.{Task}
use Rattle.tool_tasks.specs.declared.task.Task.TheVariants as task
use Rattle.substrate.specs.Locations.{is_same}
use Rattle.robot_moves.specs.Modules.{chamber_module, module_at, is_idle}
use Rattle.robot_moves.specs.declared.module.Module.{Module}
use Rattle.robot_moves.specs.declared.view.PlaceView.{PlaceView}
use Rattle.robot_moves.specs.declared.view.Move.{Move}

-- what the first of these numbers gives that gives something: of so many, from this one on
abbrev pub first_of : {A : Type 0} → (ℕ → Option A) → ℕ → ℕ → Option A
first_of gives number zero = None
first_of gives number (suc count) = option_or (gives number) (first_of gives (number + 1) count)

-- ---- who is where

-- the substrate at a location
abbrev pub holder : LocId → List PlaceView → Option PlaceView
holder loc views = find (λ v. is_same v.at loc) views

-- no substrate is there
abbrev pub is_empty : LocId → List PlaceView → Bool
is_empty loc views = not (list_any (λ v. is_same v.at loc) views)

-- ---- where a substrate is to go

-- a location is free where it is empty and, if it is a module's, the module is Idle
abbrev pub is_free : List PlaceView → List Module → LocId → Bool
is_free views modules (Slot p k) = is_empty (Slot p k) views
is_free views modules Aligner = is_empty Aligner views && is_idle (module_at 2 modules)
is_free views modules Arm = is_empty Arm views && is_idle (module_at 1 modules)
is_free views modules (Chamber c) = is_empty (Chamber c) views && is_idle (module_at (chamber_module c) modules)

-- a chamber, where it is in the substrate's next step, empty and Idle
abbrev pub chamber_where_free : List PlaceView → List Module → PlaceView → ℕ → Option ℕ
chamber_where_free views modules v c =
    if has_chamber v.chambers c && is_free views modules (Chamber c) then Some c else None

-- the least numbered chamber of its next step that is empty and Idle; a set has chambers 1 to 8
abbrev pub free_chamber : List PlaceView → List Module → PlaceView → Option ℕ
free_chamber views modules v = first_of (chamber_where_free views modules v) 1 8

-- the target of a finished substrate is its own slot; of one that isn't aligned the aligner; else the least numbered chamber of
-- its next step that is empty and Idle
abbrev pub target : List PlaceView → List Module → PlaceView → Option LocId
target views modules v =
    if v.finished then Some v.slot
    else (if not v.aligned then Some Aligner else option_map (λ c. Chamber c) (free_chamber views modules v))

-- a location, where it is free
abbrev pub where_free : List PlaceView → List Module → Option LocId → Option LocId
where_free views modules None = None
where_free views modules (Some loc) = if is_free views modules loc then Some loc else None

-- the target, where it is free
abbrev pub free_target : List PlaceView → List Module → PlaceView → Option LocId
free_target views modules v = where_free views modules (target views modules v)

-- ---- which substrate is to be picked

-- a chamber of 1 to 8 is in the next step of the substrate's route
abbrev pub is_next : PlaceView → ℕ → Bool
is_next v c = (nat_le 1 c && nat_le c 8) && has_chamber v.chambers c

-- the substrate may leave where it is: it stands at an Idle module with nothing left to do there, or in its slot, unfinished,
-- with its job PROCESSING; at the aligner nothing is left to do where it is finished or aligned, at a chamber where it is finished
-- or the chamber isn't in its next step
abbrev pub may_leave : LocId → List Module → PlaceView → Bool
may_leave (Slot p k) modules v = (is_same (Slot p k) v.slot && not v.finished) && v.may_start
may_leave Aligner modules v = is_idle (module_at 2 modules) && (v.finished || v.aligned)
may_leave Arm modules v = false
may_leave (Chamber c) modules v = is_idle (module_at (chamber_module c) modules) && (v.finished || not (is_next v c))

-- a pick is useful where the substrate may leave, and its target is free
abbrev pub is_useful : List PlaceView → List Module → PlaceView → Bool
is_useful views modules v = may_leave v.at modules v && is_some (free_target views modules v)

-- the stage of a location: 0 a slot, 1 the aligner, and over them the chambers by their numbers, from 1 on; nothing is picked from the
-- arm
abbrev pub stage_of : LocId → ℕ
stage_of (Slot p k) = 0
stage_of Aligner = 1
stage_of Arm = 0
stage_of (Chamber c) = 1 + c

-- one goes first of two: its stage is greater, or it is the same, and the number of registration no greater
abbrev pub goes_first : PlaceView → PlaceView → Bool
goes_first v w =
    nat_lt (stage_of w.at) (stage_of v.at) || ((stage_of w.at == stage_of v.at) && nat_le v.number w.number)

-- of two the one that goes first
abbrev pub first_of_two : PlaceView → Option PlaceView → PlaceView
first_of_two v None = v
first_of_two v (Some w) = if goes_first v w then v else w

-- the better of the best so far, where there is one, and the next
abbrev pub better : Option PlaceView → PlaceView → PlaceView
better None v = v
better (Some best) v = first_of_two best (Some v)

-- of several the one that goes first of all
abbrev pub first_among : List PlaceView → Option PlaceView
first_among [] = None
first_among (v ∷ views) = Some (first_of_two v (first_among views))

-- the best pick: the first of those that are useful
abbrev pub best_pick : List PlaceView → List Module → Option PlaceView
best_pick views modules = first_among (filter (is_useful views modules) views)

-- ---- what each module is to do

-- a move by a row of table 16
abbrev pub move_by : ℕ → ℕ → Task → Move
move_by number row what = record { «module» = record { 0 = number }; row = row; task = what }

-- row 1: what the arm holds is placed at its target, where that is free
abbrev pub place_move : List PlaceView → List Module → PlaceView → Option Move
place_move views modules v = option_map (λ loc. move_by 1 1 (task.Place v.sub loc)) (free_target views modules v)

-- row 2: a substrate is picked where it is
abbrev pub pick_move : PlaceView → Move
pick_move v = move_by 1 2 (task.Pick v.sub v.at)

-- the robot places what its arm holds; with an empty arm it does the best pick
abbrev pub arm_move : List PlaceView → List Module → Option PlaceView → Option Move
arm_move views modules (Some v) = place_move views modules v
arm_move views modules None = option_map pick_move (best_pick views modules)

-- the robot, when Idle
abbrev pub robot_move : List PlaceView → List Module → Option Move
robot_move views modules = if is_idle (module_at 1 modules) then arm_move views modules (holder Arm views) else None

-- row 3: what the aligner holds is aligned, where it is unfinished and isn't aligned
abbrev pub align_move : Option PlaceView → Option Move
align_move None = None
align_move (Some v) = if not v.finished && not v.aligned then Some (move_by 2 3 (task.Align v.sub)) else None

-- the aligner, when Idle
abbrev pub aligner_move : List PlaceView → List Module → Option Move
aligner_move views modules = if is_idle (module_at 2 modules) then align_move (holder Aligner views) else None

-- row 4: what a chamber holds is processed, where it is unfinished and the chamber is in its next step
abbrev pub process_move : ℕ → Option PlaceView → Option Move
process_move number None = None
process_move number (Some v) =
    if not v.finished && is_next v (number - 2) then Some (move_by number 4 (task.Process v.sub v.recipe)) else None

-- a chamber, when Idle, by the number of its module
abbrev pub chamber_move : ℕ → List PlaceView → List Module → Option Move
chamber_move number views modules =
    if is_idle (module_at number modules) then process_move number (holder (Chamber (number - 2)) views) else None

-- what the module of a number is to do: 1 is the robot, 2 the aligner, the others are the chambers
abbrev pub module_move : ℕ → List PlaceView → List Module → Option Move
module_move number views modules =
    if number == 1 then robot_move views modules
    else (if number == 2 then aligner_move views modules else chamber_move number views modules)

-- the next move: the least ready row of rows 1 to 4, by the number of the module
abbrev pub next_move : List PlaceView → List Module → Option Move
next_move views modules = first_of (λ number. module_move number views modules) 1 (length modules)
