use Rattle.std.proofs.Common.{◌+◌, arith}
use Rattle.batching.specs.Making.{batch_seen}
use Rattle.batching.proofs.Carrying.{lines_from, lines-next, lines-end, Makes-lines, Makes-lines-stops, Makes-lines-none}
use Rattle.batching.proofs.carriers.bring.Goals as goal

pub loop-i-preserved : goal.loop-i-preserved
loop-i-preserved g c = record {
  whole = c.in-Ok.ensures.whole;
  least = omega arith;
  most = omega (arith, c.loop-i-test.true);
  joined = λ b result rest. c.loop-i.invariant.joined b result
      (Makes-lines c.args.config.now c.args.k (batch_seen g.C.Recorder.view c.loop-i.batch) (batch_seen g.C.Recorder.view c.lot_turn.new.batch) b (lines_from c.loop-i.i) c.loop-i.i (lines_from (c.loop-i.i + 1)) result (lines-next c.loop-i.i c.loop-i.invariant.least c.loop-i-test.true) c.in-Ok.ensures.made rest);
}

pub returns-in-Err-clause-made : goal.returns-in-Err-clause-made
returns-in-Err-clause-made g c =
    c.loop-i.invariant.joined _ _
    (Makes-lines-stops c.args.config.now c.args.k (batch_seen g.C.Recorder.view c.loop-i.batch) (batch_seen g.C.Recorder.view c.lot_turn.new.batch) (lines_from c.loop-i.i) c.loop-i.i (lines_from (c.loop-i.i + 1)) c.in-Err.stop (lines-next c.loop-i.i c.loop-i.invariant.least c.loop-i-test.true) c.in-Err.ensures.made)

pub returns-clause-made : goal.returns-clause-made
returns-clause-made g c =
    c.loop-i.invariant.joined _ _
    (Makes-lines-none c.args.config.now c.args.k (batch_seen g.C.Recorder.view c.loop-i.batch) (lines_from c.loop-i.i) (lines-end c.loop-i.i c.loop-i-test.false c.loop-i.invariant.most))
