use Rattle.std.proofs.Common.{◌≡◌, drop}
use Rattle.gem_tables.specs.Machine.{first_ready}
use Rattle.floor_model.specs.Floor.{location_at, location_numbers}
use Rattle.floor_model.specs.Machines.{location_ready}
use Rattle.tool_floor.proofs.floor.ToolFloor.ready_location.Given as goal

abbrev pub invariant-loop-place : goal.invariant-loop-place
invariant-loop-place l = first_ready 11 (λ number. location_ready number (location_at number l.self.locations) l.self) (drop l.place (location_numbers 1 l.self.locations)) ≡ first_ready 11 (λ number. location_ready number (location_at number l.self.locations) l.self) (location_numbers 1 l.self.locations)
