-- Numbers as words (this tool's profile, the program's words).
use Rattle.std.specs.Prelude.{ℕ, ◌+◌, ◌*◌, ◌-◌, Bool, true, false, not, ◌&&◌, nat_eq, nat_le, if◌then◌else◌, List, [], ◌∷◌, Option, Some, None}
use Rattle.std.specs.List.{list_all}

-- a decimal digit
abbrev pub is_digit : ℕ → Bool
is_digit byte = nat_le 48 byte && nat_le byte 57

-- the first of several digits isn't 0
abbrev pub leads : List ℕ → Bool
leads [] = false
leads (b ∷ []) = true
leads (b ∷ c ∷ bs) = not (nat_eq b 48)

-- decimal digits without leading zeros, one at least
abbrev pub is_decimal : List ℕ → Bool
is_decimal word = leads word && list_all is_digit word

-- a number, and the digit behind it
abbrev pub with_digit : ℕ → ℕ → ℕ
with_digit n byte = 10 * n + (byte - 48)

-- what digits stand for behind a number
abbrev pub value_behind : ℕ → List ℕ → ℕ
value_behind n [] = n
value_behind n (b ∷ bs) = value_behind (with_digit n b) bs

-- the number of at least and at most so much that the word spells
abbrev pub number_in : ℕ → ℕ → List ℕ → Option ℕ
number_in least most word =
    if is_decimal word && nat_le least (value_behind 0 word) && nat_le (value_behind 0 word) most then Some (value_behind 0 word) else None
