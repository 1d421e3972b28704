use Rattle.std.proofs.Common.{◌≡◌, ◌+◌, ◌-◌, true, Result}
use Rattle.batch_model.specs.Batch.{carriers_made}
use Rattle.batching.specs.declared.batch.Stop.{Stop}
use Rattle.batching.specs.Making.{BatchView, batch_seen, standing, Makes}
use Rattle.batching.proofs.carriers.carry_all.Given as goal

-- the core is whole; and whatever the carriers that are left make, with those before them it is what all make
abbrev pub invariant-loop-before : goal.invariant-loop-before
invariant-loop-before g l = record {
  whole : (g.C.Recorder.view l.batch.core).is_whole ≡ true;
  joined : (b : BatchView) (result : Result (Unit {0}) Stop) → Makes (g.C.Recorder.view l.batch.core) b (carriers_made (l.carriers - l.before) l.config (l.before + 1) (standing (batch_seen g.C.Recorder.view l.batch))) result
      → Makes (g.C.Recorder.view l.fn.batch.core) b (carriers_made l.carriers l.config 1 (standing (batch_seen g.C.Recorder.view l.fn.batch))) result;
}
