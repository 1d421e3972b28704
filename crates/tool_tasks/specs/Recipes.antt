-- How the recipes of a configuration lie in their places.
use Rattle.std.specs.Prelude.{ℕ, []}
use Rattle.tool_tasks.specs.declared.recipes.Recipe.{Recipe}

-- the greatest number of recipes (this tool's profile, limits)
abbrev pub most_recipes : ℕ
most_recipes = 32

-- what stands in a place without a recipe: no name and no step
abbrev pub blank : Recipe
blank = record { name = []; route = [] }
