use Rattle.std.proofs.Common.{◌≡◌, ◌≤◌, true, Result}
use Rattle.batch_model.specs.Batch.{lot_turns}
use Rattle.batching.specs.declared.batch.Stop.{Stop}
use Rattle.batching.specs.Making.{BatchView, batch_seen, standing, Makes}
use Rattle.batching.proofs.Carrying.{first_lines, lines_from}
use Rattle.batching.proofs.carriers.bring.Given as goal

-- the core is whole; and whatever the lines that are left make, with those before them it is what all make
abbrev pub invariant-loop-i : goal.invariant-loop-i
invariant-loop-i g l = record {
  whole : (g.C.Recorder.view l.batch.core).is_whole ≡ true;
  least : 1 ≤ l.i;
  most : l.i ≤ 6;
  joined : (b : BatchView) (result : Result (Unit {0}) Stop) → Makes (g.C.Recorder.view l.batch.core) b (lot_turns l.config l.k (lines_from l.i) (standing (batch_seen g.C.Recorder.view l.batch))) result
      → Makes (g.C.Recorder.view l.fn.batch.core) b (lot_turns l.config l.k first_lines (standing (batch_seen g.C.Recorder.view l.fn.batch))) result;
}
