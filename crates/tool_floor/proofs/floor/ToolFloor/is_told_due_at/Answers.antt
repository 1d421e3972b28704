use Rattle.std.proofs.Common.{Option, ◌∙◌, sym, ap}
use Rattle.robot_moves.specs.declared.module.Module.{Module}
use Rattle.tool_floor.specs.Due.{is_due_at}
use Rattle.tool_floor.proofs.floor.ToolFloor.is_told_due_at.Goals as goal

pub returns-in-Some : goal.returns-in-Some
returns-in-Some c = c.is_module_due.ensures ∙ ap (λ (o : Option Module). is_due_at o c.args.self.now.substrates) (sym c.in-Some.is ∙ c.module_at.ensures)

pub returns-in-None : goal.returns-in-None
returns-in-None c = ap (λ (o : Option Module). is_due_at o c.args.self.now.substrates) (sym c.in-None.is ∙ c.module_at.ensures)
