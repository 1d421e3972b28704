use Rattle.batch_model.specs.Batch.{answers, carriers_made}
use Rattle.batching.specs.Making.{batch_seen, standing}
use Rattle.batching.proofs.Making.{Makes-then, Makes-stops}
use Rattle.batching.proofs.run.carry_and_answer.Goals as goal

pub returns-in-Ok-clause-made : goal.returns-in-Ok-clause-made
returns-in-Ok-clause-made g c =
    Makes-then (g.C.Recorder.view c.args.batch.now.core) (batch_seen g.C.Recorder.view c.carry_all.new.batch) (batch_seen g.C.Recorder.view c.answer_all.new.batch) (carriers_made c.args.carriers c.args.config.now 1 (standing (batch_seen g.C.Recorder.view c.args.batch.now))) (answers c.args.config.now) c.answer_all.result c.in-Ok.ensures.made c.answer_all.ensures.made

pub returns-in-Err-clause-made : goal.returns-in-Err-clause-made
returns-in-Err-clause-made g c =
    Makes-stops (g.C.Recorder.view c.args.batch.now.core) (batch_seen g.C.Recorder.view c.carry_all.new.batch) (carriers_made c.args.carriers c.args.config.now 1 (standing (batch_seen g.C.Recorder.view c.args.batch.now))) (answers c.args.config.now) c.in-Err.stop c.in-Err.ensures.made
