use Rattle.std.proofs.Common.{length, sym, ap, ◌∙◌}
use Rattle.gem_model.specs.State.{opening}
use Rattle.shared_tool.specs.Laws.{posted_length}
use Rattle.shared_tool.proofs.Holding.{run_of}
use Rattle.shared_tool.proofs.keeping.HeldKept.count.Goals as goal

pub returns : goal.returns
returns g c =
    let h = c.args.self.now in
    let core = g.C.Recorder.view h.core in
    ap length c.history.ensures.history
    ∙ sym (posted_length (opening core.config) core.history core.state (run_of core.config core.history core.state h.legal h.there))
