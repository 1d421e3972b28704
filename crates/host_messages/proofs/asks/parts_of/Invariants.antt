use Rattle.std.proofs.Common.{◌≡◌, ◌++◌, drop, map}
use Rattle.gem_model.specs.Messages.{alarm_part}
use Rattle.host_messages.proofs.asks.parts_of.Given as goal

-- what was found stands before what the others give
abbrev pub invariant-loop-id : goal.invariant-loop-id
invariant-loop-id l = map (alarm_part l.initial.seen) l.initial.ids ≡ l.parts.items ++ map (alarm_part l.initial.seen) (drop l.id-index l.initial.ids)
