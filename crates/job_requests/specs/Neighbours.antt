-- Names that stand beside each other.
use Rattle.std.specs.Prelude.{ℕ, Bool, true, false, not, ◌&&◌, List, [], ◌∷◌}
use Rattle.std.specs.Str.{bytes_eq}

-- the first of these is this name
abbrev pub is_first : List ℕ → List (List ℕ) → Bool
is_first name [] = false
is_first name (n ∷ names) = bytes_eq n name

-- no name has the same one next behind it
abbrev pub are_neighbours_apart : List (List ℕ) → Bool
are_neighbours_apart [] = true
are_neighbours_apart (n ∷ names) = not (is_first n names) && are_neighbours_apart names
