-- What the key `recipes` may say (this tool's profile, configuration).
use Rattle.std.specs.Prelude.{ℕ, Bool, ◌||◌, nat_le, if◌then◌else◌, List, [], ◌∷◌, ◌++◌, length, codes, Option, Some, None, option_and_then, option_map}
use Rattle.std.specs.List.{list_any}
use Rattle.std.specs.Str.{bytes_eq}
use Rattle.toml.specs.Data.{Data, Items, no_items, item, Members, as_table, get_member}
use Rattle.tool_tasks.specs.Chambers.{chambers_to}
use Rattle.tool_tasks.specs.Recipes.{most_recipes}
use Rattle.tool_tasks.specs.declared.recipes.Recipe.{Recipe}
use Rattle.configuration.specs.Routes.{route_key, route_of}
use Rattle.configuration.specs.Values.{text_of, filled_list, has_other}

-- the keys of a recipe, by the version
abbrev pub recipe_keys : ℕ → List (List ℕ)
recipe_keys version = codes "name" ∷ (route_key version ∷ [])

-- a recipe of a table: a name of 1 to 64 bytes and its route, and no other key
abbrev pub recipe_in : ℕ → ℕ → Members → Option Recipe
recipe_in version chambers ms =
    if has_other (recipe_keys version) ms then None else
    option_and_then (λ name. option_map (λ route. record { name = name; route = route }) (option_and_then (route_of version chambers) (get_member (route_key version) ms)))
    (option_and_then (text_of 64) (get_member (codes "name") ms))

-- a recipe of this name is among these
abbrev pub has_name : List ℕ → List Recipe → Bool
has_name name recipes = list_any (λ (r : Recipe). bytes_eq name r.name) recipes

-- one recipe more: there are at most 32, and their names are distinct
abbrev pub with_recipe : List Recipe → Recipe → Option (List Recipe)
with_recipe found recipe = if nat_le most_recipes (length found) || has_name recipe.name found then None else Some (found ++ recipe ∷ [])

-- the recipes of a list, behind those before it
abbrev pub recipes_behind : ℕ → ℕ → List Recipe → Items → Option (List Recipe)
recipes_behind version chambers found no_items = Some found
recipes_behind version chambers found (item d ds) =
    option_and_then (λ more. recipes_behind version chambers more ds) (option_and_then (with_recipe found) (option_and_then (recipe_in version chambers) (as_table d)))

-- a list of 1 to 32 recipes of distinct names, in its order
abbrev pub recipes_of : ℕ → ℕ → Data → Option (List Recipe)
recipes_of version chambers d = option_and_then (recipes_behind version chambers []) (filled_list d)

-- the recipes where none are given: one, `R1`, a route of one step with all chambers
abbrev pub recipe_for_all : ℕ → List Recipe
recipe_for_all chambers = record { name = codes "R1"; route = chambers_to chambers ∷ [] } ∷ []
