use Rattle.std.proofs.Common.{rules, ◌≡◌, ◌∷◌, subst}
use Rattle.tool_crew.specs.Seating.{AllOf, IsOf}
use Rattle.tool_crew.proofs.seating.unseat_all.Goals as goal

pub unreachable-requires : goal.unreachable-requires
unreachable-requires g c =
    let t = c.args.shared.now in
    let all = subst (λ l. AllOf t l) c.in-Some.ensures.steps.0 c.loop-seat.invariant.5 in
    subst (λ o. IsOf t o) c.in_default.is all.0
