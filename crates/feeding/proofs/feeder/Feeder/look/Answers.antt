use Rattle.std.proofs.Common.{◌≢◌, None, rules}
use Rattle.tool_events.specs.declared.event.Event.TheVariants.{Tick}
use Rattle.gem_model.specs.Step.{step}
use Rattle.feeding.specs.Views.{feeder_seen}
use Rattle.feeding.proofs.LineParts.{TakesLine-look}
use Rattle.feeding.proofs.feeder.Feeder.look.Goals as goal

pub returns-clause-takes : goal.returns-clause-takes
returns-clause-takes g c = λ r reading.
    let due : step (g.C.Recorder.view c.args.self.now.core).state c.args.at.0 Tick ≢ None = search rules in
    TakesLine-look r c.args.at (feeder_seen g.C.Recorder.view c.args.self.now) (g.C.Recorder.view c.input.new.core) _ _ c.input.result reading due c.input.ensures.goes
