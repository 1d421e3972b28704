use Rattle.std.proofs.Common.{◌≡◌, drop}
use Rattle.configuration.specs.Recipes.{has_name}
use Rattle.configuration.proofs.recipes.has_name.Given as goal

abbrev pub invariant-loop-recipe : goal.invariant-loop-recipe
invariant-loop-recipe l = has_name l.name l.recipes ≡ has_name l.name (drop l.recipe-index l.recipes)
