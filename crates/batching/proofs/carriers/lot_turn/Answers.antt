use Rattle.std.proofs.Common.{refl, subst, List}
use Rattle.tool_events.specs.declared.event.Event.{Event}
use Rattle.line_grammar.specs.Reading.{feed_line_of}
use Rattle.sim_modules.specs.Lot.{lot_line}
use Rattle.batch_model.specs.Batch.{lot_turn, turn}
use Rattle.batching.specs.Making.{batch_seen, standing, Makes}
use Rattle.batching.proofs.Making.{Makes-unmade}
use Rattle.batching.proofs.Carrying.{line_inputs}
use Rattle.batching.proofs.carriers.lot_turn.Goals as goal

-- what a line puts in are inputs
pub turn-requires-clause-inputs : goal.turn-requires-clause-inputs
turn-requires-clause-inputs g c = rw c.in-Ok.ensures (line_inputs (feed_line_of (lot_line c.args.config.now c.args.k c.args.i)))

pub returns-in_default-clause-made : goal.returns-in_default-clause-made
returns-in_default-clause-made g c =
    Makes-unmade (g.C.Recorder.view c.args.batch.now.core) (batch_seen g.C.Recorder.view c.args.batch.now) (lot_turn c.args.config.now c.args.k c.args.i (standing (batch_seen g.C.Recorder.view c.args.batch.now))) refl

pub returns-clause-made : goal.returns-clause-made
returns-clause-made g c =
    subst (λ (es : List Event). Makes (g.C.Recorder.view c.args.batch.now.core) (batch_seen g.C.Recorder.view c.turn.new.batch) (turn c.args.config.now es (standing (batch_seen g.C.Recorder.view c.args.batch.now))) c.turn.result) c.in-Ok.ensures c.turn.ensures.made
