-- What stands where at rest: what the states of locations say, and what Done of an open command meets (after SEMI E90; this tool's
-- profile, table 11 and moves).
use Rattle.std.specs.Prelude.{◌≡◌, ℕ, Bool, true, false, ◌&&◌, List, Some}
use Rattle.gem_ids.specs.declared.numbers.LocId.{LocId}
use Rattle.gem_ids.specs.declared.numbers.LocId.TheVariants.{Arm}
use Rattle.tool_tasks.specs.declared.task.Command.{Command}
use Rattle.tool_tasks.specs.declared.task.Task.{Task}
use Rattle.tool_tasks.specs.declared.task.Task.TheVariants as task
use Rattle.robot_moves.specs.declared.module.Module.TheVariants.{Busy}
use Rattle.robot_moves.specs.Modules.{module_at}
use Rattle.substrate.specs.Locations.{is_location}
use Rattle.substrate.specs.Places.{PlaceMap, can_shift, is_taken_at}
use Rattle.substrate.specs.declared.record.LocationRecord.{LocationRecord}
use Rattle.substrate.specs.declared.record.Occupancy.{Occupancy}
use Rattle.substrate.specs.declared.record.Occupancy.TheVariants.{Unoccupied, Occupied}
use Rattle.floor_model.specs.Floor.{ToolFloor, location_at}

-- a location is OCCUPIED
abbrev pub is_occupied : Occupancy → Bool
is_occupied Occupied = true
is_occupied Unoccupied = false

-- each location is OCCUPIED exactly where a substrate is there
abbrev pub AreOccupied : ToolFloor → Type 0
AreOccupied f = (n : ℕ) (l : LocationRecord) → location_at n f.locations ≡ Some l → is_occupied l.occupancy ≡ is_taken_at n f.places

-- a substrate can go from a place to another: both are places of the tool, it is at the one, and nobody is at the other
abbrev pub can_go : List ℕ → LocId → LocId → PlaceMap → Bool
can_go sub from to p = (is_location p.ports p.chambers from && is_location p.ports p.chambers to) && can_shift sub from to p.held

-- Done of this command meets no place that is taken or left
abbrev pub is_met : Task → PlaceMap → Bool
is_met (task.Pick sub from) p = can_go sub from Arm p
is_met (task.Place sub to) p = can_go sub Arm to p
is_met _ p = true

-- so it is of each open command
abbrev pub AreMet : ToolFloor → Type 0
AreMet f = (m : ℕ) (c : Command) (fetched : Bool) → module_at m f.modules ≡ Some (Busy c fetched) → is_met c.task f.places ≡ true
