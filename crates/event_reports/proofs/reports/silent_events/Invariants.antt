use Rattle.std.proofs.Common.{◌≡◌, map, take}
use Rattle.event_reports.specs.Reports.{silent}
use Rattle.event_reports.proofs.reports.silent_events.Given as goal

abbrev pub invariant-loop-ceid : goal.invariant-loop-ceid
invariant-loop-ceid l = l.events.items ≡ map silent (take l.ceid-index l.ceid-items)
