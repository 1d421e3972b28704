use Rattle.batch_model.specs.Batch.{dones_by, most_dones, lot_turn}
use Rattle.batching.specs.Making.{batch_seen, standing}
use Rattle.batching.proofs.Making.{Makes-then, Makes-stops}
use Rattle.batching.proofs.carriers.work_and_remove.Goals as goal

pub returns-in-Ok-clause-made : goal.returns-in-Ok-clause-made
returns-in-Ok-clause-made g c =
    Makes-then (g.C.Recorder.view c.args.batch.now.core) (batch_seen g.C.Recorder.view c.work.new.batch) (batch_seen g.C.Recorder.view c.lot_turn.new.batch) (dones_by most_dones c.args.config.now (standing (batch_seen g.C.Recorder.view c.args.batch.now))) (lot_turn c.args.config.now c.args.k 6) c.lot_turn.result c.in-Ok.ensures.made c.lot_turn.ensures.made

pub returns-in-Err-clause-made : goal.returns-in-Err-clause-made
returns-in-Err-clause-made g c =
    Makes-stops (g.C.Recorder.view c.args.batch.now.core) (batch_seen g.C.Recorder.view c.work.new.batch) (dones_by most_dones c.args.config.now (standing (batch_seen g.C.Recorder.view c.args.batch.now))) (lot_turn c.args.config.now c.args.k 6) c.in-Err.stop c.in-Err.ensures.made
