use Rattle.std.proofs.Common.{◌≡◌, ◌∙◌, [], ◌∷◌, ap, subst}
use Rattle.tool_events.specs.declared.event.Event.{Event}
use Rattle.batch_model.specs.Host.{select_request}
use Rattle.batch_model.specs.Batch.{told, turn}
use Rattle.batching.specs.Making.{batch_seen, standing, Makes}
use Rattle.batching.proofs.turns.select.Goals as goal

pub turn_one-requires-clause-input : goal.turn_one-requires-clause-input
turn_one-requires-clause-input g c = rw c.told.ensures tt

pub returns-clause-made : goal.returns-clause-made
returns-clause-made g c =
    let is : c.told.result ≡ told select_request = c.told.ensures ∙ ap told c.select_request.ensures in
    subst (λ (e : Event). Makes (g.C.Recorder.view c.args.batch.now.core) (batch_seen g.C.Recorder.view c.turn_one.new.batch) (turn c.args.config.now (e ∷ []) (standing (batch_seen g.C.Recorder.view c.args.batch.now))) c.turn_one.result) is c.turn_one.ensures.made
