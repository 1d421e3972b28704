-- Lists of numbers that rise.
use Rattle.std.specs.Prelude.{ℕ, Bool, true, nat_lt, ◌&&◌, List, [], ◌∷◌}

-- each number is below the next
abbrev pub rises : List ℕ → Bool
rises [] = true
rises (n ∷ []) = true
rises (n ∷ (m ∷ others)) = nat_lt n m && rises (m ∷ others)
