use Rattle.std.proofs.Common.{◌≡◌, ◌++◌, map, take, drop}
use Rattle.event_reports.specs.Reports.{unlinked}
use Rattle.event_reports.proofs.reports.definitions.unlink.Given as goal

abbrev pub invariant-loop-event : goal.invariant-loop-event
invariant-loop-event l =
    l.event-items ≡ map unlinked (take l.event-index l.initial.event-items) ++ drop l.event-index l.initial.event-items
