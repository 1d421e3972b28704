use Rattle.batch_model.specs.Batch.{Standing, Made, then_made, dones_by, most_dones, lot_turn, lot_turns}
use Rattle.batching.specs.Making.{batch_seen, standing}
use Rattle.batching.proofs.Making.{Makes-then, Makes-stops}
use Rattle.batching.proofs.Carrying.{first_lines}
use Rattle.batching.proofs.carriers.carry.Goals as goal

pub returns-in-Ok-clause-made : goal.returns-in-Ok-clause-made
returns-in-Ok-clause-made g c =
    let rest : Standing → Made = λ t. then_made (dones_by most_dones c.args.config.now t) (lot_turn c.args.config.now c.args.k 6) in
    Makes-then (g.C.Recorder.view c.args.batch.now.core) (batch_seen g.C.Recorder.view c.bring.new.batch) (batch_seen g.C.Recorder.view c.work_and_remove.new.batch) (lot_turns c.args.config.now c.args.k first_lines (standing (batch_seen g.C.Recorder.view c.args.batch.now))) rest c.work_and_remove.result c.in-Ok.ensures.made c.work_and_remove.ensures.made

pub returns-in-Err-clause-made : goal.returns-in-Err-clause-made
returns-in-Err-clause-made g c =
    let rest : Standing → Made = λ t. then_made (dones_by most_dones c.args.config.now t) (lot_turn c.args.config.now c.args.k 6) in
    Makes-stops (g.C.Recorder.view c.args.batch.now.core) (batch_seen g.C.Recorder.view c.bring.new.batch) (lot_turns c.args.config.now c.args.k first_lines (standing (batch_seen g.C.Recorder.view c.args.batch.now))) rest c.in-Err.stop c.in-Err.ensures.made
