use Rattle.shared_tool.proofs.Holding.{recorded_as}
use Rattle.shared_tool.proofs.shared.Shared+Held+C.close.Goals as goal

pub returns-clause-recorded : goal.returns-clause-recorded
returns-clause-recorded g c =
    let h = c.close-core.result in
    let core = g.C.Recorder.view h.core in
    recorded_as core.config core.history core.state h.bounded h.legal h.there
