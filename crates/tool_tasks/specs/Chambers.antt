-- Sets of chambers, of which bit c - 1 stands for chamber c (this tool's profile, configuration and moves).
use Rattle.std.specs.Prelude.{ℕ, ◌-◌, ◌/◌, ◌%◌, ◌^◌, ◌==◌, Bool, List, filter}
use Rattle.std.specs.Int.Bits.{bit_or}
use Rattle.std.specs.List.{fold, range_with_len}

-- the last chamber of a plant, and so the last that a recipe may name (this tool's profile, configuration)
abbrev pub last_chamber : ℕ
last_chamber = 8

-- a set has this chamber
abbrev pub has_chamber : ℕ → ℕ → Bool
has_chamber set c = (set / 2 ^ (c - 1)) % 2 == 1

-- a set and this chamber
abbrev pub with_chamber : ℕ → ℕ → ℕ
with_chamber set c = bit_or set (2 ^ (c - 1))

-- the set of these chambers
abbrev pub chamber_set : List ℕ → ℕ
chamber_set cs = fold with_chamber 0 cs

-- the set of the chambers from 1 to this one
abbrev pub chambers_to : ℕ → ℕ
chambers_to last = 2 ^ last - 1

-- the chambers of a set, in their order
abbrev pub chamber_list : ℕ → List ℕ
chamber_list set = filter (has_chamber set) (range_with_len 1 last_chamber)
