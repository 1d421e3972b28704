use Rattle.std.proofs.Common.{◌≡◌, true, Result}
use Rattle.batch_model.specs.Batch.{answers_by, answers}
use Rattle.batching.specs.declared.batch.Stop.{Stop}
use Rattle.batching.specs.Making.{BatchView, batch_seen, standing, Makes}
use Rattle.batching.proofs.turns.answer_all.Given as goal

-- the core is whole; and whatever the answers that are left make, with those before them it is what all make
abbrev pub invariant-answers : goal.invariant-answers
invariant-answers g l = record {
  whole : (g.C.Recorder.view l.batch.core).is_whole ≡ true;
  joined : (b : BatchView) (result : Result (Unit {0}) Stop) → Makes (g.C.Recorder.view l.batch.core) b (answers_by l.left l.config (standing (batch_seen g.C.Recorder.view l.batch))) result
      → Makes (g.C.Recorder.view l.fn.batch.core) b (answers l.config (standing (batch_seen g.C.Recorder.view l.fn.batch))) result;
}

abbrev pub decreases-answers : goal.decreases-answers
decreases-answers g l = l.left
