use Rattle.std.proofs.Common.{◌≡◌, map, take}
use Rattle.message_model.specs.Printed.{items}
use Rattle.message_model.specs.GemReplies.{stream_refusal}
use Rattle.msgs_gem.proofs.reply.stream_refusals.Given as goal

-- the items are those of the refusals so far
abbrev pub invariant-loop-refusal : goal.invariant-loop-refusal
invariant-loop-refusal l = l.items ≡ items (map stream_refusal (take l.refusal-index l.refusals))
