-- What digits stand for, digit by digit.
use Rattle.std.proofs.Common.{ℕ, suc, ◌+◌, ◌*◌, ◌-◌, ◌<◌, ◌≤◌, List, [], ◌∷◌, length, get_or, drop, arith, drop-cons}
use Rattle.program_words.specs.Numbers.{with_digit, value_behind}

-- more digits make no smaller number
pub value-grows : (n : ℕ) (bytes : List ℕ) → n ≤ value_behind n bytes
value-grows n [] = omega arith
value-grows n (b ∷ bs) = omega (arith, value-grows (with_digit n b) bs)

over-more : (most n b : ℕ) (bytes : List ℕ) → most < 10 * n + (b - 48) → most < value_behind n (b ∷ bytes)
over-more most n b bytes over = let more : 10 * n + (b - 48) ≤ value_behind (10 * n + (b - 48)) bytes = value-grows _ bytes in omega arith

-- a number that is too great with one digit more is too great with all
pub value-over : (most n i d : ℕ) (word : List ℕ) → i < length word → most < 10 * n + (get_or word i d - 48) → most < value_behind n (drop i word)
value-over most n i d word within over = rw (drop-cons word i d within) (over-more most n (get_or word i d) (drop (suc i) word) over)
