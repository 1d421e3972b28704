use Rattle.std.proofs.Common.{◌<◌, ◌∙◌, sym, ap, is_some, length, arith}
use Rattle.robot_moves.specs.Moves.{module_move}
use Rattle.robot_moves.proofs.First.{first_next, first_here, is_nothing}
use Rattle.robot_moves.proofs.planner.Planner.next_of.Goals as goal

pub returns-then-is_some : goal.returns-then-is_some
returns-then-is_some g c =
    let within : c.loop-index.index < length c.args.modules.now = omega (arith, c.loop-index-test.true, c.len-index-end.ensures.len) in
    c.module_move-found.ensures
    ∙ sym (first_here (λ number. module_move number (g.P.Whereabouts.told c.args.places.now) c.args.modules.now) c.loop-index.index (length c.args.modules.now) within (ap is_some (sym c.module_move-found.ensures) ∙ sym c.is_some.ensures ∙ c.if-is_some.true))
    ∙ c.loop-index.invariant

pub loop-index-preserved : goal.loop-index-preserved
loop-index-preserved g c =
    let within : c.loop-index.index < length c.args.modules.now = omega (arith, c.loop-index-test.true, c.len-index-end.ensures.len) in
    sym (first_next (λ number. module_move number (g.P.Whereabouts.told c.args.places.now) c.args.modules.now) c.loop-index.index (length c.args.modules.now) within (sym c.module_move-found.ensures ∙ is_nothing _ (sym c.is_some.ensures ∙ c.if-is_some.false)))
    ∙ c.loop-index.invariant
