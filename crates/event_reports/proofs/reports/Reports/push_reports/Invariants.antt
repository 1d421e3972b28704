use Rattle.std.proofs.Common.{◌≡◌, take}
use Rattle.event_reports.specs.Values.{joined}
use Rattle.event_reports.specs.Reports.{items_of_reports}
use Rattle.event_reports.proofs.reports.Reports.push_reports.Given as goal

abbrev pub invariant-loop-rptid : goal.invariant-loop-rptid
invariant-loop-rptid g l = l.out ≡ joined l.initial.out (items_of_reports (g.V.Values.value_of l.v) (take l.rptid-index l.rptids) l.self)
