use Rattle.std.proofs.Common.{[], ◌∷◌}
use Rattle.tool_events.specs.declared.event.Event.TheVariants as event
use Rattle.batch_model.specs.Host.{select_request, enable_request}
use Rattle.batch_model.specs.Batch.{Standing, Made, then_made, told, turn}
use Rattle.batching.specs.Making.{batch_seen, standing}
use Rattle.batching.proofs.Making.{Makes-then, Makes-stops}
use Rattle.batching.proofs.turns.begin.Goals as goal

pub returns-in-Ok-clause-made : goal.returns-in-Ok-clause-made
returns-in-Ok-clause-made g c =
    let rest : Standing → Made = λ t. then_made (turn c.args.config.now (told select_request ∷ []) t) (turn c.args.config.now (told (enable_request c.args.config.now.device) ∷ [])) in
    Makes-then (g.C.Recorder.view c.args.batch.now.core) (batch_seen g.C.Recorder.view c.turn_one.new.batch) (batch_seen g.C.Recorder.view c.select_and_enable.new.batch) (turn c.args.config.now (event.LinkUp ∷ []) (standing (batch_seen g.C.Recorder.view c.args.batch.now)))
    rest c.select_and_enable.result c.in-Ok.ensures.made c.select_and_enable.ensures.made

pub returns-in-Err-clause-made : goal.returns-in-Err-clause-made
returns-in-Err-clause-made g c =
    let rest : Standing → Made = λ t. then_made (turn c.args.config.now (told select_request ∷ []) t) (turn c.args.config.now (told (enable_request c.args.config.now.device) ∷ [])) in
    Makes-stops (g.C.Recorder.view c.args.batch.now.core) (batch_seen g.C.Recorder.view c.turn_one.new.batch) (turn c.args.config.now (event.LinkUp ∷ []) (standing (batch_seen g.C.Recorder.view c.args.batch.now))) rest c.in-Err.stop c.in-Err.ensures.made
