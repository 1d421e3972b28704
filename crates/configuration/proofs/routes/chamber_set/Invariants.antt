use Rattle.std.proofs.Common.{◌≡◌, ℕ, List, [], drop}
use Rattle.toml.specs.View.{items_view}
use Rattle.configuration.specs.Values.{numbers_behind}
use Rattle.configuration.proofs.ChamberSets.{IsSetOf}
use Rattle.configuration.proofs.routes.chamber_set.Given as goal

abbrev pub invariant-loop-value : goal.invariant-loop-value
invariant-loop-value l =
    (seen : List ℕ) × (numbers_behind 1 l.chambers [] (items_view l.values) ≡ numbers_behind 1 l.chambers seen (items_view (drop l.value-index l.values)))
    × IsSetOf seen l.found
