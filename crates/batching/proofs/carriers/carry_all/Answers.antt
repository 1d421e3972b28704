use Rattle.std.proofs.Common.{◌≡◌, suc, ◌+◌, ◌-◌, arith}
use Rattle.batching.specs.Making.{batch_seen}
use Rattle.batching.proofs.Carrying.{Makes-carrier, Makes-carrier-stops, Makes-carriers-end, Makes-carriers-all}
use Rattle.batching.proofs.carriers.carry_all.Goals as goal

pub loop-before-init : goal.loop-before-init
loop-before-init g c = record {
  whole = c.requires.whole;
  joined = λ b result rest. Makes-carriers-all c.args.config.now (batch_seen g.C.Recorder.view c.args.batch.now) b c.args.carriers result rest;
}

pub loop-before-preserved : goal.loop-before-preserved
loop-before-preserved g c =
    let next : c.args.carriers - c.loop-before.before ≡ suc (c.args.carriers - (c.loop-before.before + 1)) = omega (arith, c.loop-before-test.true) in
    record {
      whole = c.in-Ok.ensures.whole;
      joined = λ b result rest. c.loop-before.invariant.joined b result
          (Makes-carrier c.args.config.now (batch_seen g.C.Recorder.view c.loop-before.batch) (batch_seen g.C.Recorder.view c.carry.new.batch) b (c.args.carriers - c.loop-before.before) (c.args.carriers - (c.loop-before.before + 1)) (c.loop-before.before + 1) result next c.in-Ok.ensures.made rest);
    }

pub returns-in-Err-clause-made : goal.returns-in-Err-clause-made
returns-in-Err-clause-made g c =
    let next : c.args.carriers - c.loop-before.before ≡ suc (c.args.carriers - (c.loop-before.before + 1)) = omega (arith, c.loop-before-test.true) in
    c.loop-before.invariant.joined _ _
    (Makes-carrier-stops c.args.config.now (batch_seen g.C.Recorder.view c.loop-before.batch) (batch_seen g.C.Recorder.view c.carry.new.batch) (c.args.carriers - c.loop-before.before) (c.args.carriers - (c.loop-before.before + 1)) (c.loop-before.before + 1) c.in-Err.stop next c.in-Err.ensures.made)

pub returns-clause-made : goal.returns-clause-made
returns-clause-made g c =
    c.loop-before.invariant.joined _ _ (Makes-carriers-end c.args.config.now (batch_seen g.C.Recorder.view c.loop-before.batch) (c.args.carriers - c.loop-before.before) (c.loop-before.before + 1) (omega (arith, c.loop-before-test.false)))
