use Rattle.std.proofs.Common.{◌≡◌, false, is_some, Some, None, if◌then◌else◌, rules}
use Rattle.gem_model.specs.State.{is_up}
use Rattle.feeding.specs.Views.{feeder_seen}
use Rattle.feeding.proofs.LineParts.{down_is, TakesLine-up}
use Rattle.feeding.proofs.feeder.Feeder.link_up.Goals as goal

pub returns-clause-takes : goal.returns-clause-takes
returns-clause-takes g c = λ r reading.
    let none : is_some (if is_up (g.C.Recorder.view c.args.self.now.core).state then Some (g.C.Recorder.view c.args.self.now.core).state.link.session else None) ≡ false = search rules in
    let down = down_is (is_up (g.C.Recorder.view c.args.self.now.core).state) (g.C.Recorder.view c.args.self.now.core).state.link.session none in
    TakesLine-up r (feeder_seen g.C.Recorder.view c.args.self.now) (g.C.Recorder.view c.input-2.new.core) c.in-Ok.cutter _ _ c.input-2.result reading down c.in-Ok.ensures c.input-2.ensures.goes
