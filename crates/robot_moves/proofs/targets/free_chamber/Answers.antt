use Rattle.std.proofs.Common.{◌∙◌, sym, ap, is_some, arith}
use Rattle.robot_moves.specs.Moves.{chamber_where_free}
use Rattle.robot_moves.proofs.First.{first_next, first_here, first_none, is_nothing}
use Rattle.robot_moves.proofs.targets.free_chamber.Goals as goal

pub returns-then-is_some : goal.returns-then-is_some
returns-then-is_some g c =
    let gives = chamber_where_free (g.P.Whereabouts.told c.args.places.now) c.args.modules.now c.args.v.now in
    c.chamber_where_free-found.ensures
    ∙ sym (first_here gives c.loop-index.index 8 c.loop-index-test.true (ap is_some (sym c.chamber_where_free-found.ensures) ∙ sym c.is_some.ensures ∙ c.if-is_some.true))
    ∙ c.loop-index.invariant

pub loop-index-preserved : goal.loop-index-preserved
loop-index-preserved g c =
    let gives = chamber_where_free (g.P.Whereabouts.told c.args.places.now) c.args.modules.now c.args.v.now in
    sym (first_next gives c.loop-index.index 8 c.loop-index-test.true (sym c.chamber_where_free-found.ensures ∙ is_nothing _ (sym c.is_some.ensures ∙ c.if-is_some.false)))
    ∙ c.loop-index.invariant

pub returns : goal.returns
returns g c =
    let gives = chamber_where_free (g.P.Whereabouts.told c.args.places.now) c.args.modules.now c.args.v.now in
    sym (first_none gives c.loop-index.index 8 (omega arith)) ∙ c.loop-index.invariant
