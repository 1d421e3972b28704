use Rattle.std.proofs.Common.{◌≡◌, suc, ◌-◌, ◌∙◌, sym, arith}
use Rattle.batching.specs.Making.{batch_seen}
use Rattle.batching.proofs.Answering.{Makes-work, Makes-work-stops, Makes-work-none, Makes-work-memory, Makes-work-unanswered, Makes-work-end}
use Rattle.batching.proofs.turns.work.Goals as goal

pub dones-preserved : goal.dones-preserved
dones-preserved g c =
    let next : c.dones.left ≡ suc (c.dones.left - 1) = omega (arith, c.dones-test.true) in
    record {
      whole = c.in-Ok-do_one.ensures.whole;
      joined = λ b result rest. c.dones.invariant.joined b result
          (Makes-work c.args.config.now (batch_seen g.C.Recorder.view c.dones.batch) (batch_seen g.C.Recorder.view c.answer_all.new.batch) (batch_seen g.C.Recorder.view c.do_one.new.batch) b c.dones.left (c.dones.left - 1) c.in-Ok-Some.next result next c.in-Ok.ensures.made (sym c.in-Ok-Some.field-0-is ∙ c.in-Ok-Some.ensures) c.in-Ok-do_one.ensures.made rest);
    }

pub returns-in-Err-do_one-clause-made : goal.returns-in-Err-do_one-clause-made
returns-in-Err-do_one-clause-made g c =
    let next : c.dones.left ≡ suc (c.dones.left - 1) = omega (arith, c.dones-test.true) in
    c.dones.invariant.joined _ _
    (Makes-work-stops c.args.config.now (batch_seen g.C.Recorder.view c.dones.batch) (batch_seen g.C.Recorder.view c.answer_all.new.batch) (batch_seen g.C.Recorder.view c.do_one.new.batch) c.dones.left (c.dones.left - 1) c.in-Ok-Some.next c.in-Err-do_one.stop next c.in-Ok.ensures.made (sym c.in-Ok-Some.field-0-is ∙ c.in-Ok-Some.ensures) c.in-Err-do_one.ensures.made)

pub returns-in-Ok-None-clause-made : goal.returns-in-Ok-None-clause-made
returns-in-Ok-None-clause-made g c =
    let next : c.dones.left ≡ suc (c.dones.left - 1) = omega (arith, c.dones-test.true) in
    c.dones.invariant.joined _ _
    (Makes-work-none c.args.config.now (batch_seen g.C.Recorder.view c.dones.batch) (batch_seen g.C.Recorder.view c.answer_all.new.batch) c.dones.left (c.dones.left - 1) next c.in-Ok.ensures.made (sym c.in-Ok-None.field-0-is ∙ c.in-Ok-None.ensures))

pub returns-in-Err-next_done-clause-made : goal.returns-in-Err-next_done-clause-made
returns-in-Err-next_done-clause-made g c =
    let next : c.dones.left ≡ suc (c.dones.left - 1) = omega (arith, c.dones-test.true) in
    c.dones.invariant.joined _ _
    (Makes-work-memory c.args.config.now (batch_seen g.C.Recorder.view c.dones.batch) (batch_seen g.C.Recorder.view c.answer_all.new.batch) c.dones.left (c.dones.left - 1) next c.in-Ok.ensures.made)

pub returns-in-Err-clause-made : goal.returns-in-Err-clause-made
returns-in-Err-clause-made g c =
    let next : c.dones.left ≡ suc (c.dones.left - 1) = omega (arith, c.dones-test.true) in
    c.dones.invariant.joined _ _
    (Makes-work-unanswered c.args.config.now (batch_seen g.C.Recorder.view c.dones.batch) (batch_seen g.C.Recorder.view c.answer_all.new.batch) c.dones.left (c.dones.left - 1) c.in-Err.stop next c.in-Err.ensures.made)

pub returns-clause-made : goal.returns-clause-made
returns-clause-made g c =
    c.dones.invariant.joined _ _ (Makes-work-end c.args.config.now (batch_seen g.C.Recorder.view c.dones.batch) c.dones.left (omega (arith, c.dones-test.false)))
