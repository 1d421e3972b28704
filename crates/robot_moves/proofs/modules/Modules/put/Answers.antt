use Rattle.std.proofs.Common.{◌≤◌, ◌<◌, ◌∙◌, ap, sym, subst, length, List, arith}
use Rattle.robot_moves.specs.Modules.{change_module}
use Rattle.robot_moves.specs.declared.module.Module.{Module}
use Rattle.robot_moves.proofs.Numbers.{change_set, change_past}
use Rattle.robot_moves.proofs.modules.Modules.put.Goals as goal

pub returns-then-number-len : goal.returns-then-number-len
returns-then-number-len c =
    let some : 0 < c.args.m.0 = omega (arith, c.if-number-eq0.false) in
    let within : c.args.m.0 ≤ length c.self.inside.modules.items = omega (arith, c.if-number-len.true, c.len.ensures) in
    change_set c.args.m.0 c.self.inside.modules.items c.args.new some within
    ∙ ap (λ (ms : List Module). change_module c.args.m.0 (λ _. c.args.new) ms) c.self.view_is

pub returns-else-number-len : goal.returns-else-number-len
returns-else-number-len c =
    let past : length c.self.inside.modules.items < c.args.m.0 = omega (arith, c.if-number-len.false, c.len.ensures) in
    sym (change_past c.args.m.0 (λ _. c.args.new) c.args.self.now (subst (λ (ms : List Module). length ms < c.args.m.0) c.self.view_is past))
