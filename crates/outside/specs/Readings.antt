-- What a clock in memory gives.
use Rattle.std.specs.Prelude.{ℕ, zero, suc, ◌-◌, min, List, [], ◌∷◌, ◌++◌, length, slice_index_or}
use Rattle.gem_ids.specs.declared.moment.Moment.{Moment}

-- what the reading behind so many others gives: the moment at that place, behind the last one the last, and of none moment 0
-- (this tool's profile, clocks and gates)
abbrev pub reading : List Moment → ℕ → Moment
reading moments count = slice_index_or moments (min count (length moments - 1)) (record { 0 = 0 })

-- what the first readings give, the first of them first (this tool's profile, clocks and gates)
abbrev pub readings : List Moment → ℕ → List Moment
readings moments zero = []
readings moments (suc count) = readings moments count ++ reading moments count ∷ []
