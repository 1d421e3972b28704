use Rattle.std.proofs.Common.{◌≡◌, ◌++◌, drop}
use Rattle.floor_model.specs.Substrates.{registration_rows}
use Rattle.tool_floor.proofs.floor.ToolFloor.registration_rows.Given as goal

abbrev pub invariant-loop-place : goal.invariant-loop-place
invariant-loop-place l = l.rows.items ++ registration_rows (drop l.place l.self.substrates) ≡ registration_rows (drop l.known l.self.substrates)
