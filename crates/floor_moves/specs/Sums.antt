-- A sum over numbers.
use Rattle.std.specs.Prelude.{ℕ, ◌+◌, List, [], ◌∷◌}

-- the sum of what is said of each of these
abbrev pub sum_of : (ℕ → ℕ) → List ℕ → ℕ
sum_of weight [] = 0
sum_of weight (n ∷ ns) = weight n + sum_of weight ns
