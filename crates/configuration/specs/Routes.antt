-- What a recipe may say of its route: the chambers of its one step in version 1, and its steps from version 2 on (this tool's
-- profile, configuration).
use Rattle.std.specs.Prelude.{ℕ, Bool, nat_le, ◌==◌, ◌&&◌, if◌then◌else◌, List, [], ◌∷◌, length, codes, Option, Some, option_and_then, option_map}
use Rattle.toml.specs.Data.{Data, Items, no_items, item}
use Rattle.tool_tasks.specs.Chambers.{chamber_set}
use Rattle.tool_tasks.specs.Routes.{most_steps, rises}
use Rattle.configuration.specs.Values.{passing, numbers_behind, filled_list}

-- a list of distinct numbers of the plant's chambers that isn't empty, as the set of them
abbrev pub chambers_in : ℕ → Data → Option ℕ
chambers_in chambers d = option_map chamber_set (option_and_then (numbers_behind 1 chambers []) (filled_list d))

-- the steps of a list, each a list of chambers, in their order
abbrev pub steps_in : ℕ → Items → Option (List ℕ)
steps_in chambers no_items = Some []
steps_in chambers (item d ds) = option_and_then (λ step. option_map (λ steps. step ∷ steps) (steps_in chambers ds)) (chambers_in chambers d)

-- six steps at most, of which each is before the next
abbrev pub is_route : List ℕ → Bool
is_route steps = nat_le (length steps) most_steps && rises steps

-- a list of one to six steps, each before the next
abbrev pub route_in : ℕ → Data → Option (List ℕ)
route_in chambers d = option_and_then (passing is_route) (option_and_then (steps_in chambers) (filled_list d))

-- the key of a recipe's route, by the version
abbrev pub route_key : ℕ → List ℕ
route_key version = if version == 1 then codes "chambers" else codes "route"

-- the route that its value says: that of one step in version 1
abbrev pub route_of : ℕ → ℕ → Data → Option (List ℕ)
route_of version chambers d = if version == 1 then option_map (λ step. step ∷ []) (chambers_in chambers d) else route_in chambers d
