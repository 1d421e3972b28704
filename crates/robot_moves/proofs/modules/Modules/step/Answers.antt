use Rattle.std.proofs.Common.{◌∙◌, ap, sym}
use Rattle.robot_moves.specs.Modules.{change_module, stepped}
use Rattle.robot_moves.specs.declared.module.Module.{Module}
use Rattle.robot_moves.proofs.Numbers.{change_found, change_missing}
use Rattle.robot_moves.proofs.modules.Modules.step.Goals as goal

pub returns-in-Some : goal.returns-in-Some
returns-in-Some c =
    c.put.ensures
    ∙ ap (λ (new : Module). change_module c.args.m.0 (λ _. new) c.args.self.now) c.stepped.ensures
    ∙ change_found c.args.m.0 (stepped c.args.step) c.args.self.now c.in-Some.module (sym c.get.ensures ∙ c.in-Some.is)

pub returns-in_default : goal.returns-in_default
returns-in_default c = sym (change_missing c.args.m.0 (stepped c.args.step) c.args.self.now (sym c.get.ensures ∙ c.in_default.is))
