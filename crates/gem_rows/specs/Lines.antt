-- Lines of a list of numbers with names, where a name can end in, or hold, the number of a port, chamber or module.
use Rattle.std.specs.Prelude.{ℕ, ◌+◌, ◌-◌, ◌==◌, Bool, nat_lt, nat_le, ◌&&◌, if◌then◌else◌, List, [], ◌∷◌, ◌++◌, Option, Some, None}
use Rattle.std.specs.Option.{option_or}
use Rattle.std.specs.List.{list_all, flat_map}
use Rattle.gem_ids.specs.Names.{two_digits}
use Rattle.gem_rows.specs.Events.{numbers_from}

-- a line: one number with its name; or the numbers behind a base, one for each of so many things, with the name's parts
-- before and behind the thing's number
pub data Line : Type 0 where
  one : ℕ → List ℕ → Line
  each : ℕ → ℕ → List ℕ → List ℕ → Line

-- the decimal digits of a number below 100, in ASCII, with no zero before them
abbrev pub digits : ℕ → List ℕ
digits number = if nat_lt number 10 then (48 + number) ∷ [] else two_digits number

-- a number is one of so many behind a base
abbrev pub is_behind : ℕ → ℕ → ℕ → Bool
is_behind base count number = nat_lt base number && nat_le number (base + count)

-- the name that a line gives a number
abbrev pub line_name : ℕ → Line → Option (List ℕ)
line_name number (one n name) = if number == n then Some name else None
line_name number (each base count before behind) =
    if is_behind base count number then Some (before ++ digits (number - base) ++ behind) else None

-- the name that the lines give a number, where one of them has it
abbrev pub name_in : List Line → ℕ → Option (List ℕ)
name_in [] number = None
name_in (l ∷ lines) number = option_or (line_name number l) (name_in lines number)

-- the numbers of a line, rising
abbrev pub line_numbers : Line → List ℕ
line_numbers (one n name) = n ∷ []
line_numbers (each base count before behind) = numbers_from (base + 1) count

-- the numbers of the lines in their order
abbrev pub numbers_in : List Line → List ℕ
numbers_in lines = flat_map line_numbers lines

-- each byte prints: it is the space to the tilde (this tool's profile, texts)
abbrev pub are_printable : List ℕ → Bool
are_printable bytes = list_all (λ byte. nat_le 32 byte && nat_le byte 126) bytes
