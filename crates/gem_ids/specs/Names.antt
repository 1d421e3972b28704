-- What the names of carriers, jobs and substrates hold.
use Rattle.std.specs.Prelude.{ℕ, ◌+◌, ◌/◌, ◌%◌, ◌≤◌, List, [], ◌∷◌, ◌++◌, length}

-- a text of at least so many bytes and at most so many: 1 to 64 name a carrier or a job, 4 to 67 a substrate (this tool's profile, names)
abbrev pub HasLength : ℕ → ℕ → List ℕ → Type 0
HasLength least most text = (least ≤ length text) × (length text ≤ most)

-- two decimal digits, in ASCII
abbrev pub two_digits : ℕ → List ℕ
two_digits n = (48 + n / 10) ∷ (48 + n % 10) ∷ []

-- the name of a slot's substrate: the carrier's name, a point and the two digits of the slot (this tool's profile, names)
abbrev pub name_in_slot : List ℕ → ℕ → List ℕ
name_in_slot carrier slot = carrier ++ 46 ∷ two_digits slot
