-- Names of process jobs, as a control job has them.
use Rattle.std.specs.Prelude.{ℕ, Bool, false, List, [], ◌∷◌}
use Rattle.records.specs.Names as named

-- a name is its own
abbrev pub itself : List ℕ → List ℕ
itself n = n

-- a name is among these
abbrev pub is_in : List ℕ → List (List ℕ) → Bool
is_in name names = named.is_named itself name names

-- the names without this one
abbrev pub others : List ℕ → List (List ℕ) → List (List ℕ)
others name names = named.without_named itself name names

-- each is given once
abbrev pub is_each_once : List (List ℕ) → Bool
is_each_once names = named.are_named_apart itself names

-- there are some, and each is given once
abbrev pub are_named : List (List ℕ) → Bool
are_named [] = false
are_named (n ∷ names) = is_each_once (n ∷ names)
