use Rattle.std.proofs.Common.{◌≡◌, ◌++◌, drop, filter_map}
use Rattle.gem_model.specs.Spooling.{refusal}
use Rattle.host_messages.proofs.spooling.refusals.Given as goal

-- what was found stands before what the others give
abbrev pub invariant-loop-entry : goal.invariant-loop-entry
invariant-loop-entry l = filter_map refusal l.initial.entries ≡ l.refusals ++ filter_map refusal (drop l.entry-index l.initial.entries)
