use Rattle.batch_model.specs.Batch.{Standing, Made, answers, begun, carriers_made, then_made}
use Rattle.batching.specs.Making.{batch_seen, standing}
use Rattle.batching.proofs.Making.{Makes-then, Makes-stops}
use Rattle.batching.proofs.run.run.Goals as goal

pub returns-in-Ok-clause-made : goal.returns-in-Ok-clause-made
returns-in-Ok-clause-made g c =
    let rest : Standing → Made = λ s. then_made (carriers_made c.args.carriers c.args.config.now 1 s) (answers c.args.config.now) in
    Makes-then (g.C.Recorder.view c.args.batch.now.core) (batch_seen g.C.Recorder.view c.begin.new.batch) (batch_seen g.C.Recorder.view c.carry_and_answer.new.batch) (begun c.args.config.now (standing (batch_seen g.C.Recorder.view c.args.batch.now))) rest c.carry_and_answer.result c.in-Ok.ensures.made c.carry_and_answer.ensures.made

pub returns-in-Err-clause-made : goal.returns-in-Err-clause-made
returns-in-Err-clause-made g c =
    let rest : Standing → Made = λ s. then_made (carriers_made c.args.carriers c.args.config.now 1 s) (answers c.args.config.now) in
    Makes-stops (g.C.Recorder.view c.args.batch.now.core) (batch_seen g.C.Recorder.view c.begin.new.batch) (begun c.args.config.now (standing (batch_seen g.C.Recorder.view c.args.batch.now))) rest c.in-Err.stop c.in-Err.ensures.made
