use Rattle.batch_model.specs.Batch.{answers, all_entered}
use Rattle.batching.specs.Making.{batch_seen, standing}
use Rattle.batching.proofs.Making.{Makes-then, Makes-stops}
use Rattle.batching.proofs.turns.turn.Goals as goal

pub returns-in-Ok-clause-made : goal.returns-in-Ok-clause-made
returns-in-Ok-clause-made g c =
    Makes-then (g.C.Recorder.view c.args.batch.now.core) (batch_seen g.C.Recorder.view c.answer_all.new.batch) (batch_seen g.C.Recorder.view c.enter_all.new.batch) (answers c.args.config.now (standing (batch_seen g.C.Recorder.view c.args.batch.now))) (all_entered c.args.events.items) c.enter_all.result c.in-Ok.ensures.made c.enter_all.ensures.made

pub returns-in-Err-clause-made : goal.returns-in-Err-clause-made
returns-in-Err-clause-made g c =
    Makes-stops (g.C.Recorder.view c.args.batch.now.core) (batch_seen g.C.Recorder.view c.answer_all.new.batch) (answers c.args.config.now (standing (batch_seen g.C.Recorder.view c.args.batch.now))) (all_entered c.args.events.items) c.in-Err.stop c.in-Err.ensures.made
