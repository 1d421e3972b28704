use Rattle.gem_model.proofs.Validity.{opening_valid, run_valid}
use Rattle.tool_core.proofs.tool.CoreRecorder.idle.Goals as goal

pub returns-clause-valid : goal.returns-clause-valid
returns-clause-valid c = rw (← c.self.view_is) (run_valid _ c.self.inside.entries.items _ (opening_valid c.self.inside.config) c.self.invariant.run)
