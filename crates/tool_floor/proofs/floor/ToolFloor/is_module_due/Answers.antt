use Rattle.std.proofs.Common.{sym}
use Rattle.floor_model.proofs.Resting.{no_module_due}
use Rattle.tool_floor.proofs.floor.ToolFloor.is_module_due.Goals as goal

pub returns-in_default : goal.returns-in_default
returns-in_default c = sym (no_module_due c.args.self.now.substrates c.args.module.now c.in_default.not-Busy)
