use Rattle.std.proofs.Common.{◌≡◌, ◌∙◌, [], ◌∷◌, ap, refl, subst}
use Rattle.tool_events.specs.declared.event.Event.{Event}
use Rattle.batch_model.specs.Host.{enable_request}
use Rattle.batch_model.specs.Batch.{told, turn}
use Rattle.batching.specs.Making.{batch_seen, standing, Makes}
use Rattle.batching.proofs.Making.{Makes-unmade}
use Rattle.batching.proofs.turns.enable.Goals as goal

pub turn_one-requires-clause-input : goal.turn_one-requires-clause-input
turn_one-requires-clause-input g c = rw c.told.ensures tt

pub returns-in_default-clause-made : goal.returns-in_default-clause-made
returns-in_default-clause-made g c =
    Makes-unmade (g.C.Recorder.view c.args.batch.now.core) (batch_seen g.C.Recorder.view c.args.batch.now) (turn c.args.config.now (told (enable_request c.args.config.now.device) ∷ []) (standing (batch_seen g.C.Recorder.view c.args.batch.now))) refl

pub returns-clause-made : goal.returns-clause-made
returns-clause-made g c =
    let is : c.told.result ≡ told (enable_request c.args.config.now.device) = c.told.ensures ∙ ap told c.in-Ok.ensures in
    subst (λ (e : Event). Makes (g.C.Recorder.view c.args.batch.now.core) (batch_seen g.C.Recorder.view c.turn_one.new.batch) (turn c.args.config.now (e ∷ []) (standing (batch_seen g.C.Recorder.view c.args.batch.now))) c.turn_one.result) is c.turn_one.ensures.made
