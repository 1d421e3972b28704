use Rattle.std.proofs.Common.{◌≡◌, ◌++◌, drop}
use Rattle.event_reports.specs.Alarms.{set_alids}
use Rattle.plant_values.proofs.seen.Seen.set_alids.Given as goal

-- what was found stands before what the other alarms give
abbrev pub invariant-loop-alarm : goal.invariant-loop-alarm
invariant-loop-alarm l = set_alids l.alarm-items ≡ l.alids.items ++ set_alids (drop l.alarm-index l.alarm-items)
