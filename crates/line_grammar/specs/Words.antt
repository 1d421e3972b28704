-- The words of a line, and what each stands for (this tool's profile, input lines).
use Rattle.std.specs.Prelude.{◌≡◌, ◌≢◌, ℕ, ◌+◌, ◌*◌, ◌-◌, ◌≤◌, ◌&&◌, ◌==◌, nat_le, Bool, true, false, not, if◌then◌else◌, List, [], ◌∷◌, length, fold, Option, Some, None}
use Rattle.std.specs.List.{list_all}
use Rattle.std.specs.Char.{is_ascii_digit}
use Rattle.line_grammar.specs.declared.kind.WordKind.{WordKind}
use Rattle.line_grammar.specs.declared.kind.WordKind.TheVariants as kind

-- what decimal digits stand for (this tool's profile, input lines)
abbrev pub decimal_value : List ℕ → ℕ
decimal_value digits = fold (λ n digit. 10 * n + (digit - 48)) 0 digits

-- decimal digits, at least one, of which the first is 0 only where it stands alone (this tool's profile, input lines)
abbrev pub is_number : List ℕ → Bool
is_number [] = false
is_number (b ∷ []) = is_ascii_digit b
is_number (b ∷ c ∷ digits) = not (b == 48) && list_all is_ascii_digit (b ∷ c ∷ digits)

-- the least length of such a word (this tool's profile, input lines)
abbrev pub least : WordKind → ℕ
least kind.Name = 1
least kind.Substrate = 4
least kind.SlotMap = 25

-- the greatest length of such a word (this tool's profile, input lines)
abbrev pub most : WordKind → ℕ
most kind.Name = 64
most kind.Substrate = 67
most kind.SlotMap = 25

-- whether such a word may have the byte: names print and have no space, the digits of a slot map are 0 to 5 (this tool's
-- profile, input lines)
abbrev pub has : WordKind → ℕ → Bool
has kind.Name b = nat_le 33 b && nat_le b 126
has kind.Substrate b = nat_le 33 b && nat_le b 126
has kind.SlotMap b = nat_le 48 b && nat_le b 53

-- what a hex digit of either case stands for (this tool's profile, input lines)
abbrev pub hex_digit : ℕ → Option ℕ
hex_digit b = if nat_le 48 b && nat_le b 57 then Some (b - 48)
    else (if nat_le 65 b && nat_le b 70 then Some (b - 55)
    else (if nat_le 97 b && nat_le b 102 then Some (b - 87) else None))

-- two hex digits for each byte, the higher first (this tool's profile, input lines)
abbrev pub ArePairs : List ℕ → List ℕ → Type 0
ArePairs [] bytes = bytes ≡ []
ArePairs (a ∷ []) bytes = ⊥
ArePairs (a ∷ b ∷ digits) bytes =
    (high : ℕ) × (low : ℕ) × (rest : List ℕ) × (hex_digit a ≡ Some high) × (hex_digit b ≡ Some low) × ArePairs digits rest × (bytes ≡ (16 * high + low) ∷ rest)

-- a word: a number up to this one, a run of bytes that names something, or hex digits, at least two
pub data Word : Type 0 where
  number : ℕ → Word
  run : WordKind → Word
  hex : Word

-- what a word stands for
abbrev pub Value : Word → Type 0
Value (number top) = ℕ
Value (run k) = List ℕ
Value hex = List ℕ

-- the text is such a word, and stands for this
abbrev pub IsWord : (w : Word) → List ℕ → Value w → Type 0
IsWord (number top) text n = (is_number text ≡ true) × (n ≡ decimal_value text) × (n ≤ top)
IsWord (run k) text bytes = (least k ≤ length text) × (length text ≤ most k) × (list_all (has k) text ≡ true) × (bytes ≡ text)
IsWord hex text bytes = (text ≢ []) × ArePairs text bytes
