use Rattle.std.proofs.Common.{◌≡◌, ◌++◌, map, take, drop}
use Rattle.std.specs.List.{AllByRecursion, list_any}
use Rattle.event_reports.specs.Within.{HasShortLink}
use Rattle.event_reports.specs.Reports.{EventLine, with_link}
use Rattle.event_reports.proofs.reports.links.link_lines.Given as goal

abbrev pub invariant-loop-event : goal.invariant-loop-event
invariant-loop-event l = record {
  items : l.event-items ≡ map (with_link l.ceid l.rptids) (take l.event-index l.initial.event-items) ++ drop l.event-index l.initial.event-items;
  links : AllByRecursion HasShortLink l.event-items;
  ceids : map (λ (e : EventLine). e.ceid) l.event-items ≡ map (λ (e : EventLine). e.ceid) l.initial.event-items;
  enabled : list_any (λ (e : EventLine). e.enabled) l.event-items ≡ list_any (λ (e : EventLine). e.enabled) l.initial.event-items;
}
