use Rattle.std.proofs.Common.{◌+◌, List, Option, Some, sym, ap, ◌∙◌}
use Rattle.robot_moves.specs.declared.module.Module.{Module}
use Rattle.robot_moves.specs.declared.view.Move.{Move}
use Rattle.floor_model.specs.Floor.{ToolFloor}
use Rattle.tool_floor.specs.Kept.{kept_floor}
use Rattle.floor_model.specs.Modules.{issued}
use Rattle.tool_floor.proofs.floor.ToolFloor.issue.Goals as goal

pub returns-else-self-clause-ok : goal.returns-else-self-clause-ok
returns-else-self-clause-ok c =
    ap (λ (ms : List Module). record (kept_floor c.self.inside) { modules = ms; commands = c.self.inside.commands + 1 }) c.issue.ensures.after
    ∙ ap (λ (f : ToolFloor). issued c.args.m.0 (Some c.in-Some.next) f) c.self.view_is
    ∙ ap (λ (o : Option Move). issued c.args.m.0 o c.args.self.now) (sym (sym c.planned.ensures ∙ c.in-Some.is))
