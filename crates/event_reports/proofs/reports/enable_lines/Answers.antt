use Rattle.std.proofs.Common.{rules}
use Rattle.std.proofs.lemmas.List.Edits.{map_over_more}
use Rattle.event_reports.specs.Reports.{with_enabled}
use Rattle.event_reports.proofs.reports.enable_lines.Goals as goal

pub loop-event-preserved : goal.loop-event-preserved
loop-event-preserved c = search (rules, map_over_more (with_enabled c.args.on c.args.ceids.now))
