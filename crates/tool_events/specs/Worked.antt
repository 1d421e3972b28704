-- A recipe made by hand.
use Rattle.std.specs.Prelude.{ℕ, List, codes, map}
use Rattle.tool_tasks.specs.Chambers.{chamber_set}
use Rattle.tool_tasks.specs.declared.recipes.Recipe.{Recipe}

-- a recipe whose steps have these chambers
abbrev pub by_route : List (List ℕ) → Recipe
by_route steps = record { name = codes "R1"; route = map chamber_set steps }
