use Rattle.std.proofs.Common.{◌≡◌, true, Result}
use Rattle.std.specs.List.{AllByRecursion}
use Rattle.std.specs.Vec.Iter.{into_iter_items}
use Rattle.batch_model.specs.Batch.{all_entered}
use Rattle.batching.specs.declared.batch.Stop.{Stop}
use Rattle.batching.specs.Making.{BatchView, batch_seen, standing, Makes}
use Rattle.batching.specs.Parts.{IsInput}
use Rattle.batching.proofs.keeper.enter_all.Given as goal

-- the core is whole; the events that are left are inputs; and whatever they make, with those before them it is what all make
abbrev pub invariant-loop-event : goal.invariant-loop-event
invariant-loop-event g l = record {
  whole : (g.C.Recorder.view l.batch.core).is_whole ≡ true;
  inputs : AllByRecursion IsInput (into_iter_items l.event-iterator);
  joined : (b : BatchView) (result : Result (Unit {0}) Stop) → Makes (g.C.Recorder.view l.batch.core) b (all_entered (into_iter_items l.event-iterator) (standing (batch_seen g.C.Recorder.view l.batch))) result
      → Makes (g.C.Recorder.view l.fn.batch.core) b (all_entered l.fn.events.items (standing (batch_seen g.C.Recorder.view l.fn.batch))) result;
}
