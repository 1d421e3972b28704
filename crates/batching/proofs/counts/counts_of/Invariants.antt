use Rattle.std.proofs.Common.{take}
use Rattle.line_feeding.specs.Reads.{AreCounts}
use Rattle.batching.specs.Counted.{numbered_bytes}
use Rattle.batching.proofs.counts.counts_of.Given as goal

-- the entries before this one are counted
abbrev pub invariant-loop-entry : goal.invariant-loop-entry
invariant-loop-entry l = AreCounts l.counts (numbered_bytes (take l.entry-index l.history))
