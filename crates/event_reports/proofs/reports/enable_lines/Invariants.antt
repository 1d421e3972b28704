use Rattle.std.proofs.Common.{◌≡◌, ◌++◌, map, take, drop}
use Rattle.event_reports.specs.Reports.{with_enabled}
use Rattle.event_reports.proofs.reports.enable_lines.Given as goal

abbrev pub invariant-loop-event : goal.invariant-loop-event
invariant-loop-event l =
    l.event-items ≡ map (with_enabled l.on l.ceids) (take l.event-index l.initial.event-items) ++ drop l.event-index l.initial.event-items
