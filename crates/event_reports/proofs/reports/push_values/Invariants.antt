use Rattle.std.proofs.Common.{◌≡◌, take}
use Rattle.event_reports.specs.Values.{joined}
use Rattle.event_reports.specs.Reports.{value_items}
use Rattle.event_reports.proofs.reports.push_values.Given as goal

abbrev pub invariant-loop-vid : goal.invariant-loop-vid
invariant-loop-vid g l = l.out ≡ joined l.initial.out (value_items (g.V.Values.value_of l.v) (take l.vid-index l.vids))
