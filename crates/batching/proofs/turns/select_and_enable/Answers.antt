use Rattle.std.proofs.Common.{[], ◌∷◌}
use Rattle.batch_model.specs.Host.{select_request, enable_request}
use Rattle.batch_model.specs.Batch.{told, turn}
use Rattle.batching.specs.Making.{batch_seen, standing}
use Rattle.batching.proofs.Making.{Makes-then, Makes-stops}
use Rattle.batching.proofs.turns.select_and_enable.Goals as goal

pub returns-in-Ok-clause-made : goal.returns-in-Ok-clause-made
returns-in-Ok-clause-made g c =
    Makes-then (g.C.Recorder.view c.args.batch.now.core) (batch_seen g.C.Recorder.view c.select.new.batch) (batch_seen g.C.Recorder.view c.enable.new.batch) (turn c.args.config.now (told select_request ∷ []) (standing (batch_seen g.C.Recorder.view c.args.batch.now)))
    (turn c.args.config.now (told (enable_request c.args.config.now.device) ∷ [])) c.enable.result c.in-Ok.ensures.made c.enable.ensures.made

pub returns-in-Err-clause-made : goal.returns-in-Err-clause-made
returns-in-Err-clause-made g c =
    Makes-stops (g.C.Recorder.view c.args.batch.now.core) (batch_seen g.C.Recorder.view c.select.new.batch) (turn c.args.config.now (told select_request ∷ []) (standing (batch_seen g.C.Recorder.view c.args.batch.now)))
    (turn c.args.config.now (told (enable_request c.args.config.now.device) ∷ [])) c.in-Err.stop c.in-Err.ensures.made
