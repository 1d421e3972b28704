use Rattle.std.proofs.Common.{sym}
use Rattle.floor_model.proofs.Resting.{no_task_due}
use Rattle.tool_floor.proofs.floor.ToolFloor.is_task_due.Goals as goal

pub returns-in_default : goal.returns-in_default
returns-in_default c = sym (no_task_due c.args.self.now.substrates c.args.task.now c.in_default.not-Process)
