use Rattle.std.proofs.Common.{◌≡◌, ◌-◌}
use Rattle.floor_model.specs.Views.{views}
use Rattle.floor_model.specs.Picks.{chamber_pick, last_of, last_chamber_pick}
use Rattle.tool_floor.proofs.floor.ToolFloor.chamber_pick.Given as goal

abbrev pub invariant-loop-passed : goal.invariant-loop-passed
invariant-loop-passed l = last_of (chamber_pick (views l.self) l.modules) (l.chambers - l.passed) ≡ last_chamber_pick (views l.self) l.modules
