use Rattle.std.proofs.Common.{◌≡◌, ◌++◌, drop, map}
use Rattle.gem_model.specs.Messages.{status_name}
use Rattle.host_messages.proofs.asks.names_of.Given as goal

-- what was found stands before what the others give
abbrev pub invariant-loop-id : goal.invariant-loop-id
invariant-loop-id l = map (status_name l.initial.seen) l.initial.ids ≡ l.names.items ++ map (status_name l.initial.seen) (drop l.id-index l.initial.ids)
