-- Routes: the steps of a recipe in their order, each the set of the chambers that can do it (this tool's profile, configuration).
use Rattle.std.specs.Prelude.{ℕ, nat_lt, Bool, true, ◌&&◌, List, [], ◌∷◌, get_or}
use Rattle.std.specs.List.{list_all}
use Rattle.tool_tasks.specs.Chambers.{chamber_list}

-- the greatest number of steps of a route (this tool's profile, configuration)
abbrev pub most_steps : ℕ
most_steps = 6

-- the step of this number, from 0 on, as a set of chambers; no chamber where there is none (this tool's profile, moves)
abbrev pub step_at : ℕ → List ℕ → ℕ
step_at number route = get_or route number 0

-- each chamber of one step has a smaller number than each of another (this tool's profile, configuration)
abbrev pub is_before : ℕ → ℕ → Bool
is_before earlier later = list_all (λ c. list_all (nat_lt c) (chamber_list later)) (chamber_list earlier)

-- each step is before the next (this tool's profile, configuration)
abbrev pub rises : List ℕ → Bool
rises [] = true
rises (step ∷ []) = true
rises (step ∷ next ∷ steps) = is_before step next && rises (next ∷ steps)
