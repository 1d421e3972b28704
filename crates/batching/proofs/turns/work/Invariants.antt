use Rattle.std.proofs.Common.{◌≡◌, true, Result}
use Rattle.batch_model.specs.Batch.{dones_by, most_dones}
use Rattle.batching.specs.declared.batch.Stop.{Stop}
use Rattle.batching.specs.Making.{BatchView, batch_seen, standing, Makes}
use Rattle.batching.proofs.turns.work.Given as goal

-- the core is whole; and whatever the commands that are left make, with those before them it is what all make
abbrev pub invariant-dones : goal.invariant-dones
invariant-dones g l = record {
  whole : (g.C.Recorder.view l.batch.core).is_whole ≡ true;
  joined : (b : BatchView) (result : Result (Unit {0}) Stop) → Makes (g.C.Recorder.view l.batch.core) b (dones_by l.left l.config (standing (batch_seen g.C.Recorder.view l.batch))) result
      → Makes (g.C.Recorder.view l.fn.batch.core) b (dones_by most_dones l.config (standing (batch_seen g.C.Recorder.view l.fn.batch))) result;
}

abbrev pub decreases-dones : goal.decreases-dones
decreases-dones g l = l.left
