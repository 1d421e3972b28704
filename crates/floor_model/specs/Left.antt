-- The number that falls at each firing by itself, which is why the floor of the tool comes to rest.
use Rattle.std.specs.Prelude.{ℕ, ◌+◌, not, Bool, List, [], ◌∷◌, Some}
use Rattle.robot_moves.specs.Modules.{is_idle}
use Rattle.robot_moves.specs.declared.module.Module.{Module}
use Rattle.shop_floor.specs.Left.{weighs, floor_left as shop_left}
use Rattle.substrate.specs.Places.{PlaceMap, is_taken_at}
use Rattle.substrate.specs.declared.record.Occupancy.{Occupancy}
use Rattle.substrate.specs.declared.record.Occupancy.TheVariants.{Unoccupied, Occupied}
use Rattle.substrate.specs.declared.record.Transport.{Transport}
use Rattle.substrate.specs.declared.record.Transport.TheVariants.{AtSource, AtWork, AtDestination}
use Rattle.substrate.specs.declared.record.Processing.{Processing}
use Rattle.substrate.specs.declared.record.Processing.TheVariants.{NeedsProcessing, InProcess}
use Rattle.substrate.specs.declared.record.LocationRecord.{LocationRecord}
use Rattle.tool_jobs.specs.Left.{jobs_left}
use Rattle.floor_model.specs.declared.tracked.Substrate.{Substrate}
use Rattle.floor_model.specs.Floor.{ToolFloor}

-- an Idle module counts 1
abbrev pub modules_left : List Module → ℕ
modules_left [] = 0
modules_left (m ∷ ms) = weighs 1 (is_idle (Some m)) + modules_left ms

-- the state of a location does not say whether a substrate is there
abbrev pub disagrees : Occupancy → Bool → Bool
disagrees Unoccupied taken = taken
disagrees Occupied taken = not taken

-- a location counts 1 where its state disagrees with what is there; the first has this number
abbrev pub locations_left : ℕ → PlaceMap → List LocationRecord → ℕ
locations_left number p [] = 0
locations_left number p (l ∷ ls) = weighs 1 (disagrees l.occupancy (is_taken_at number p)) + locations_left (number + 1) p ls

-- AT SOURCE counts 2, AT WORK 1
abbrev pub transport_left : Transport → ℕ
transport_left AtSource = 2
transport_left AtWork = 1
transport_left AtDestination = 0

-- NEEDS PROCESSING counts 2, IN PROCESS 1
abbrev pub processing_left : Processing → ℕ
processing_left NeedsProcessing = 2
processing_left InProcess = 1
processing_left _ = 0

-- a substrate counts for both of its states
abbrev pub substrate_left : Substrate → ℕ
substrate_left s = transport_left s.states.transport + processing_left s.states.processing

abbrev pub substrates_left : List Substrate → ℕ
substrates_left [] = 0
substrates_left (s ∷ ss) = substrate_left s + substrates_left ss

-- what is left to fire by itself
abbrev pub floor_left : ToolFloor → ℕ
floor_left f =
    shop_left f.shop + (locations_left 1 f.places f.locations + (substrates_left f.substrates + (modules_left f.modules + jobs_left f.jobs)))
