use Rattle.std.proofs.Common.{◌≡◌, ℕ, List, [], drop}
use Rattle.toml.specs.View.{items_view}
use Rattle.configuration.specs.Values.{numbers_behind, streams_in}
use Rattle.configuration.proofs.values.streams_in.Given as goal

abbrev pub invariant-loop-value : goal.invariant-loop-value
invariant-loop-value l =
    (seen : List ℕ) × (numbers_behind 5 6 [] (items_view l.values) ≡ numbers_behind 5 6 seen (items_view (drop l.value-index l.values)))
    × (l.found ≡ streams_in seen)
