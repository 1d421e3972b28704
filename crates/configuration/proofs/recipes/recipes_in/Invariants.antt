use Rattle.std.proofs.Common.{◌≡◌, [], drop}
use Rattle.toml.specs.View.{items_view}
use Rattle.configuration.specs.Recipes.{recipes_behind}
use Rattle.configuration.proofs.recipes.recipes_in.Given as goal

abbrev pub invariant-loop-value : goal.invariant-loop-value
invariant-loop-value l = recipes_behind l.version l.chambers [] (items_view l.values) ≡ recipes_behind l.version l.chambers l.recipes (items_view (drop l.value-index l.values))
