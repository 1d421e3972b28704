use Rattle.std.proofs.Common.{[], ◌∷◌, List, refl, subst}
use Rattle.tool_events.specs.declared.event.Event.{Event}
use Rattle.batch_model.specs.Batch.{turn}
use Rattle.batching.specs.Making.{batch_seen, standing, Makes}
use Rattle.batching.proofs.Making.{Makes-unmade}
use Rattle.batching.proofs.turns.turn_one.Goals as goal

pub turn-requires-clause-inputs : goal.turn-requires-clause-inputs
turn-requires-clause-inputs g c = rw c.in-Ok.ensures (c.requires.input, tt)

pub returns-in_default-clause-made : goal.returns-in_default-clause-made
returns-in_default-clause-made g c =
    Makes-unmade (g.C.Recorder.view c.args.batch.now.core) (batch_seen g.C.Recorder.view c.args.batch.now) (turn c.args.config.now (c.args.event ∷ []) (standing (batch_seen g.C.Recorder.view c.args.batch.now))) refl

pub returns-clause-made : goal.returns-clause-made
returns-clause-made g c =
    subst (λ (es : List Event). Makes (g.C.Recorder.view c.args.batch.now.core) (batch_seen g.C.Recorder.view c.turn.new.batch) (turn c.args.config.now es (standing (batch_seen g.C.Recorder.view c.args.batch.now))) c.turn.result) c.in-Ok.ensures c.turn.ensures.made
