use Rattle.std.proofs.Common.{rules}
use Rattle.std.proofs.lemmas.List.Edits.{map_over_more}
use Rattle.event_reports.specs.Alarms.{line_marked}
use Rattle.event_reports.proofs.alarms.mark.Goals as goal

pub loop-line-preserved : goal.loop-line-preserved
loop-line-preserved c = search (rules, map_over_more (line_marked c.args.on c.args.alid))
