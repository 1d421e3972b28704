use Rattle.std.proofs.Common.{◌≡◌, ◌++◌, map, take, drop}
use Rattle.event_reports.specs.Alarms.{line_marked}
use Rattle.event_reports.proofs.alarms.mark.Given as goal

abbrev pub invariant-loop-line : goal.invariant-loop-line
invariant-loop-line l =
    l.line-items ≡ map (line_marked l.on l.alid) (take l.line-index l.initial.line-items) ++ drop l.line-index l.initial.line-items
