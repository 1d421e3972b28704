use Rattle.feeding.specs.Views.{feeder_seen}
use Rattle.feeding.proofs.LineParts.{TakesLine-signal}
use Rattle.feeding.proofs.feeder.Feeder.signal.Goals as goal

pub returns-clause-takes : goal.returns-clause-takes
returns-clause-takes g c = λ r reading. TakesLine-signal r c.args.signal (feeder_seen g.C.Recorder.view c.args.self.now) (g.C.Recorder.view c.input.new.core) _ _ c.input.result reading c.input.ensures.goes
