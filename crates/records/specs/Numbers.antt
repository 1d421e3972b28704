-- Records by their numbers of creation. `number` tells that of a record.
use Rattle.std.specs.Prelude.{ℕ, ◌==◌, ◌≤◌, ◌<◌, Bool, List, [], ◌∷◌, find, Option}
use Rattle.std.specs.List.{list_any}
use Rattle.records.specs.Found.{change_first, without_first}

-- the record has this number
abbrev pub has_number : {R : Type 0} → (R → ℕ) → ℕ → R → Bool
has_number number n r = number r == n

-- the record of a number
abbrev pub record_numbered : {R : Type 0} → (R → ℕ) → ℕ → List R → Option R
record_numbered number n rs = find (has_number number n) rs

-- a record of the number is there
abbrev pub is_numbered : {R : Type 0} → (R → ℕ) → ℕ → List R → Bool
is_numbered number n rs = list_any (has_number number n) rs

-- a change of the record of a number; where there is none, nothing changes
abbrev pub change_numbered : {R : Type 0} → (R → ℕ) → ℕ → (R → R) → List R → List R
change_numbered number n change rs = change_first (has_number number n) change rs

-- the records without that of a number; the others keep their order
abbrev pub without_numbered : {R : Type 0} → (R → ℕ) → ℕ → List R → List R
without_numbered number n rs = without_first (has_number number n) rs

-- their numbers rise from behind one number to another, the last that was given
abbrev pub AreRising : {R : Type 0} → (R → ℕ) → ℕ → ℕ → List R → Type 0
AreRising number last given [] = last ≤ given
AreRising number last given (r ∷ rs) = (last < number r) × AreRising number (number r) given rs

-- they rise from behind 0 to some number
abbrev pub IsRising : {R : Type 0} → (R → ℕ) → List R → Type 0
IsRising number rs = (given : ℕ) × AreRising number 0 given rs
