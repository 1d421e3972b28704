use Rattle.history_laws.proofs.Recording.{recorded-of}
use Rattle.tool_core.proofs.tool.CoreRecorder.history.Goals as goal

pub returns-clause-recorded : goal.returns-clause-recorded
returns-clause-recorded c = rw (← c.self.view_is) (recorded-of _ _ _ c.self.invariant.config c.self.invariant.run)
