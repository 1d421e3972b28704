use Rattle.batching.proofs.Counting.{AreCounts-next}
use Rattle.batching.proofs.counts.counts_of.Goals as goal

pub loop-entry-preserved : goal.loop-entry-preserved
loop-entry-preserved c =
    AreCounts-next c.args.history.now c.loop-entry.entry-index c.entry-item.result c.loop-entry.counts c.count_event.new.counts c.loop-entry-test.true c.entry-item.is c.loop-entry.invariant c.in_ok-count_event.ensures
