use Rattle.std.proofs.Common.{◌≡◌, map, take}
use Rattle.event_reports.specs.Alarms.{quiet}
use Rattle.event_reports.proofs.alarms.quiet_lines.Given as goal

abbrev pub invariant-loop-alid : goal.invariant-loop-alid
invariant-loop-alid l = l.lines.items ≡ map quiet (take l.alid-index l.alids)
