use Rattle.std.proofs.Common.{◌≡◌, suc, ◌-◌, [], ◌∙◌, sym, refl, arith}
use Rattle.std.proofs.lemmas.List.{nil_from_length}
use Rattle.batching.specs.Making.{batch_seen}
use Rattle.batching.proofs.Answering.{Makes-answer, Makes-answer-stops, Makes-answer-none, Makes-answer-end}
use Rattle.batching.proofs.turns.answer_all.Goals as goal

pub answers-preserved : goal.answers-preserved
answers-preserved g c =
    let next : c.answers.left ≡ suc (c.answers.left - 1) = omega (arith, c.answers-test.true) in
    record {
      whole = c.in-Ok.ensures.whole;
      joined = λ b result rest. c.answers.invariant.joined b result
          (Makes-answer c.args.config.now (batch_seen g.C.Recorder.view c.answers.batch) (batch_seen g.C.Recorder.view c.answer.new.batch) b c.answers.left (c.answers.left - 1) c.in-Some.primary c.pop_front.new.self.items result next c.in-Some.ensures.items c.in-Ok.ensures.made rest);
    }

pub returns-in-Err-clause-made : goal.returns-in-Err-clause-made
returns-in-Err-clause-made g c =
    let next : c.answers.left ≡ suc (c.answers.left - 1) = omega (arith, c.answers-test.true) in
    c.answers.invariant.joined _ _
    (Makes-answer-stops c.args.config.now (batch_seen g.C.Recorder.view c.answers.batch) (batch_seen g.C.Recorder.view c.answer.new.batch) c.answers.left (c.answers.left - 1) c.in-Some.primary c.pop_front.new.self.items c.in-Err.stop next c.in-Some.ensures.items c.in-Err.ensures.made)

pub returns-in_default-clause-made : goal.returns-in_default-clause-made
returns-in_default-clause-made g c =
    let none : c.answers.batch.asked.items ≡ [] = nil_from_length _ (omega (arith, c.answers.batch.asked.ok.0, c.in_default.ensures.cases.0)) in
    c.answers.invariant.joined _ _
    (Makes-answer-none c.args.config.now (batch_seen g.C.Recorder.view c.answers.batch) _ c.answers.left refl refl c.in_default.ensures.items none)

pub returns-clause-made : goal.returns-clause-made
returns-clause-made g c =
    c.answers.invariant.joined _ _ (Makes-answer-end c.args.config.now (batch_seen g.C.Recorder.view c.answers.batch) c.answers.left (omega (arith, c.answers-test.false)))
