use Rattle.std.proofs.Common.{◌≡◌, ◌++◌, map, take, drop}
use Rattle.event_reports.specs.Alarms.{line_enabled}
use Rattle.event_reports.proofs.alarms.enable_lines.Given as goal

abbrev pub invariant-loop-line : goal.invariant-loop-line
invariant-loop-line l =
    l.line-items ≡ map (line_enabled l.on l.alid) (take l.line-index l.initial.line-items) ++ drop l.line-index l.initial.line-items
