use Rattle.std.proofs.Common.{rules}
use Rattle.std.proofs.lemmas.List.Edits.{map_over_more}
use Rattle.event_reports.specs.Reports.{link_without}
use Rattle.event_reports.proofs.reports.definitions.forget.Goals as goal

pub loop-event-preserved : goal.loop-event-preserved
loop-event-preserved c = search (rules, map_over_more (link_without c.args.rptid))
