-- What the floor tells of one substrate, and which of its picks are useful (this tool's profile, moves).
use Rattle.std.specs.Prelude.{ℕ, zero, suc, ◌-◌, ◌==◌, Bool, not, ◌&&◌, ◌||◌, if◌then◌else◌, List, [], ◌∷◌, length, find, Option, Some, None, option_map}
use Rattle.std.specs.Option.{option_or}
use Rattle.gem_ids.specs.declared.numbers.LocId.{LocId}
use Rattle.gem_ids.specs.declared.numbers.LocId.TheVariants.{Aligner, Chamber}
use Rattle.substrate.specs.Locations.{is_work_place}
use Rattle.substrate.specs.Places.{stands_at}
use Rattle.substrate.specs.Record.{is_finished}
use Rattle.substrate.specs.declared.registered.Registered.{Registered}
use Rattle.robot_moves.specs.Modules.{chamber_module, module_at, is_idle}
use Rattle.robot_moves.specs.Moves.{holder, is_useful}
use Rattle.robot_moves.specs.declared.module.Module.{Module}
use Rattle.robot_moves.specs.declared.view.PlaceView.{PlaceView}
use Rattle.tool_jobs.specs.Jobs.{Jobs}
use Rattle.floor_model.specs.declared.tracked.Substrate.{Substrate}
use Rattle.floor_model.specs.Jobs.{job_of, is_job_so, is_processing}
use Rattle.floor_model.specs.Floor.{ToolFloor, substrate_numbered}
use Rattle.floor_model.specs.Views.{view_of, views}

-- ---- what is told of one substrate

-- of one with its place
abbrev pub told : Jobs → Registered → Substrate → PlaceView
told w r s = view_of r s (job_of s w) w.process.recipes

-- the substrate that was found at a place, where it is of a carrier that is here
abbrev pub kept_as : Option Registered → ToolFloor → Option Substrate
kept_as None f = None
kept_as (Some r) f = substrate_numbered r.number f.substrates

-- what is told of it
abbrev pub told_of : Option Registered → ToolFloor → Option PlaceView
told_of None f = None
told_of (Some r) f = option_map (told f.jobs r) (substrate_numbered r.number f.substrates)

-- what is told of a substrate, where it is the one that was found at a place
abbrev pub told_there : Substrate → Jobs → Option Registered → Option PlaceView
told_there s w None = None
told_there s w (Some r) = if r.number == s.number then Some (told w r s) else None

-- what is told of a substrate that is in its slot
abbrev pub told_in_slot : Substrate → ToolFloor → Option PlaceView
told_in_slot s f = told_there s f.jobs (find (stands_at s.slot) f.places.held)

-- ---- which picks are useful

-- a substrate, where its pick is
abbrev pub where_useful : List PlaceView → List Module → Option PlaceView → Option PlaceView
where_useful vs modules None = None
where_useful vs modules (Some v) = if is_useful vs modules v then Some v else None

-- the substrate at the location of the module of a number, where the module is Idle and the pick is useful
abbrev pub pick_at : ℕ → LocId → List PlaceView → List Module → Option PlaceView
pick_at number loc vs modules = if is_idle (module_at number modules) then where_useful vs modules (holder loc vs) else None

-- the pick from a chamber
abbrev pub chamber_pick : List PlaceView → List Module → ℕ → Option PlaceView
chamber_pick vs modules c = pick_at (chamber_module c) (Chamber c) vs modules

-- what the greatest number up to this one gives that gives something; the numbers are those from 1 on
abbrev pub last_of : (ℕ → Option PlaceView) → ℕ → Option PlaceView
last_of gives zero = None
last_of gives (suc number) = option_or (gives (suc number)) (last_of gives number)

-- the pick from the greatest chamber that has one; all modules but the robot and the aligner are chambers
abbrev pub last_chamber_pick : List PlaceView → List Module → Option PlaceView
last_chamber_pick vs modules = last_of (chamber_pick vs modules) (length modules - 2)

-- the pick from the aligner
abbrev pub aligner_pick : List PlaceView → List Module → Option PlaceView
aligner_pick vs modules = pick_at 2 Aligner vs modules

-- What is known without looking where a substrate is: it has a slot and is unfinished, it is aligned or the aligner is free, and its
-- process job is PROCESSING. Else it isn't picked from its slot.
abbrev pub may_be_picked : Bool → Substrate → Jobs → Bool
may_be_picked aligner s w =
    ((not (is_work_place s.slot) && not (is_finished s.states.processing)) && (s.aligned || aligner)) && is_job_so is_processing (job_of s w)

-- a substrate that is in its slot, where its pick is useful
abbrev pub slot_pick : Substrate → ToolFloor → List Module → Option PlaceView
slot_pick s f modules = if is_work_place s.slot then None else where_useful (views f) modules (told_in_slot s f)

-- what the first of these substrates gives that gives something
abbrev pub first_given : (Substrate → Option PlaceView) → List Substrate → Option PlaceView
first_given gives [] = None
first_given gives (s ∷ ss) = option_or (gives s) (first_given gives ss)

-- the first useful pick from a slot, in the order of registration
abbrev pub first_in_slot : ToolFloor → List Module → Option PlaceView
first_in_slot f modules = first_given (λ s. slot_pick s f modules) f.substrates
