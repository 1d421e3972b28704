-- An item in words (this tool's profile, items in words).
use Rattle.std.specs.Prelude.{ℕ, ◌+◌, ◌/◌, ◌%◌, ◌==◌, ℤ, Bool, nat_eq, nat_lt, nat_le, ◌&&◌, ◌||◌, if◌then◌else◌, List, [], ◌∷◌, ◌++◌, length, flat_map, codes}
use Rattle.std.specs.List.{list_any, list_all, starts_with, ends_with}
use Rattle.std.specs.Fmt.{decimal, signed_decimal}
use Rattle.item_model.specs.Data.{Data, DataList, list, binary, boolean, ascii, i1, i2, i4, i8, u1, u2, u4, u8, no_items, item}

-- ---- elements, each with a blank before it

-- a number without a sign, in decimal digits
abbrev pub unsigned_word : ℕ → List ℕ
unsigned_word n = codes " " ++ decimal n

-- a number with a sign, in decimal digits
abbrev pub signed_word : ℤ → List ℕ
signed_word z = codes " " ++ signed_decimal z

-- a truth value
abbrev pub truth_word : Bool → List ℕ
truth_word t = if t then codes " true" else codes " false"

-- the hex digit of a number below 16, in upper case
abbrev pub hex_digit : ℕ → ℕ
hex_digit n = if nat_lt n 10 then 48 + n else 55 + n

-- a byte, in two hex digits
abbrev pub byte_word : ℕ → List ℕ
byte_word b = 32 ∷ (hex_digit (b / 16) ∷ (hex_digit (b % 16) ∷ []))

-- ---- texts

-- a character prints: it is the space to the tilde
abbrev pub prints : ℕ → Bool
prints c = nat_le 32 c && nat_le c 126

-- a character ends a piece of the words of an item: a comma, a bracket or a quote
abbrev pub is_mark : ℕ → Bool
is_mark c = (c == 44) || ((c == 91) || ((c == 93) || (c == 34)))

-- a text can be mistaken where it stands as it is: it is empty, or has a mark, or a space at an end
abbrev pub wants_quotes : List ℕ → Bool
wants_quotes text = (length text == 0) || (list_any is_mark text || (starts_with nat_eq text (codes " ") || ends_with nat_eq text (codes " ")))

-- a character between quotes: a quote is written twice
abbrev pub quoted : ℕ → List ℕ
quoted c = if c == 34 then 34 ∷ (34 ∷ []) else c ∷ []

-- a text that prints: as it stands, or between quotes
abbrev pub plain_text : List ℕ → List ℕ
plain_text text = if wants_quotes text then codes " \"" ++ (flat_map quoted text ++ codes "\"") else codes " " ++ text

-- a text: as it prints, or, where a character of it doesn't, its bytes in hex behind a mark that stands before no other text
abbrev pub text_words : List ℕ → List ℕ
text_words text = if list_all prints text then plain_text text else codes " \"bytes\"" ++ flat_map byte_word text

-- ---- items

abbrev mutual
  -- An item: its kind and its elements. A list has its items between brackets.
  pub words : Data → List ℕ
  words (list ds) = codes "L[" ++ (listed ds ++ codes "]")
  words (binary bs) = codes "B" ++ flat_map byte_word bs
  words (boolean ts) = codes "BOOL" ++ flat_map truth_word ts
  words (ascii text) = codes "A" ++ text_words text
  words (i1 zs) = codes "I1" ++ flat_map signed_word zs
  words (i2 zs) = codes "I2" ++ flat_map signed_word zs
  words (i4 zs) = codes "I4" ++ flat_map signed_word zs
  words (i8 zs) = codes "I8" ++ flat_map signed_word zs
  words (u1 ns) = codes "U1" ++ flat_map unsigned_word ns
  words (u2 ns) = codes "U2" ++ flat_map unsigned_word ns
  words (u4 ns) = codes "U4" ++ flat_map unsigned_word ns
  words (u8 ns) = codes "U8" ++ flat_map unsigned_word ns

  -- the items of a list, with a comma and a blank between two
  pub listed : DataList → List ℕ
  listed no_items = []
  listed (item d ds) = words d ++ more_listed ds

  -- items behind another, each behind a comma and a blank
  pub more_listed : DataList → List ℕ
  more_listed no_items = []
  more_listed (item d ds) = codes ", " ++ (words d ++ more_listed ds)
