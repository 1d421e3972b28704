-- Records in the order in which they came, and the first of them that passes a test.
use Rattle.std.specs.Prelude.{Bool, if◌then◌else◌, List, [], ◌∷◌}

-- a change of the first that passes; where none does, nothing changes
abbrev pub change_first : {R : Type 0} → (R → Bool) → (R → R) → List R → List R
change_first test change [] = []
change_first test change (r ∷ rs) = if test r then change r ∷ rs else r ∷ change_first test change rs

-- the records without the first that passes; the others keep their order
abbrev pub without_first : {R : Type 0} → (R → Bool) → List R → List R
without_first test [] = []
without_first test (r ∷ rs) = if test r then rs else r ∷ without_first test rs
