use Rattle.event_reports.proofs.Counts.{few_alarms}
use Rattle.event_reports.proofs.alarms.Alarms.new.Goals as goal

pub invariant_of-result : goal.invariant_of-result
invariant_of-result c = rw (c.in_ok-lines.ensures, c.as_slice.ensures, c.in_ok-ids.ensures) (few_alarms c.args.ports c.args.chambers c.requires.ports c.requires.chambers)
