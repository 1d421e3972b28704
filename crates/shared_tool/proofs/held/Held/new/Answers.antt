use Rattle.gem_model.specs.State.{opening}
use Rattle.shared_tool.specs.Laws.{to_legal}
use Rattle.shared_tool.proofs.held.Held.new.Goals as goal

pub invariant_of-result : goal.invariant_of-result
invariant_of-result g c =
    let core = g.C.Recorder.view c.args.core in
    let legal = to_legal (opening core.config) core.history core.state c.history.ensures.recorded.run in
    record { bounded = c.requires; legal = legal.0; there = legal.1 }
