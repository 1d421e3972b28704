use Rattle.std.proofs.Common.{◌≡◌, ◌++◌, drop, map}
use Rattle.event_reports.specs.declared.alarms.AlarmLine.{AlarmLine}
use Rattle.host_messages.proofs.asks.alids.Given as goal

-- what was found stands before what the others give
abbrev pub invariant-loop-alarm : goal.invariant-loop-alarm
invariant-loop-alarm l = map (λ (a : AlarmLine). a.alid) l.alarm-items ≡ l.ids.items ++ map (λ (a : AlarmLine). a.alid) (drop l.alarm-index l.alarm-items)
