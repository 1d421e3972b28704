use Rattle.std.proofs.Common.{◌∙◌, sym, ap}
use Rattle.substrate.specs.Places.{PlaceMap, substrate_at}
use Rattle.substrate.proofs.Standing.{nobody}
use Rattle.substrate.proofs.places.Places.name_at.Goals as goal

pub returns-else-has-clause-value : goal.returns-else-has-clause-value
returns-else-has-clause-value c =
    sym (nobody c.self.inside.board.ports c.self.inside.board.chambers c.args.loc c.self.inside.names c.self.invariant.places.within (sym c.has.ensures ∙ c.if-has.false))
    ∙ ap (λ (p : PlaceMap). substrate_at c.args.loc p.held) c.self.view_is
