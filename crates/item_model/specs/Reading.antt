-- What the program's readers give, for their own clauses: `decode` is stated in the words of Spelling and Faults alone.
-- Each function gives what it reads from the front of the bytes and the bytes behind it, or a fault.
-- A place is told by what is left of the whole input, whose length is `total`.
use Rattle.std.specs.Prelude.{ℕ, zero, suc, ◌+◌, ◌-◌, ◌/◌, ◌%◌, ◌==◌, nat_lt, nat_le, ℤ, Bool, true, false, not, if◌then◌else◌, List, [], ◌∷◌, length, take, drop, slice_index, Option, Some, None, Result, Ok, Err}
use Rattle.std.specs.List.{position}
use Rattle.std.specs.Int.{Width, w8, w16, w32, w64, cast_signed}
use Rattle.byteorder.specs.Endian.{big_number}
use Rattle.item_model.specs.Data.{Data, DataList, list, binary, boolean, ascii, i1, i2, i4, i8, u1, u2, u4, u8, no_items, item}
use Rattle.item_model.specs.Format.{code, width}
use Rattle.item_model.specs.declared.fault.ItemFault.{ItemFault}
use Rattle.item_model.specs.declared.fault.ItemFault.TheVariants as fault
use Rattle.item_model.specs.declared.format.Format.{Format}
use Rattle.item_model.specs.declared.format.Format.TheVariants as format

-- what is read, and the bytes behind it
abbrev pub Read : Type 0 → Type 0
Read A = Result (A × List ℕ) ItemFault

-- one reading after another, up to a fault
infixl 10 ◌>>=◌
abbrev pub ◌>>=◌ : {A B : Type 0} → Result A ItemFault → (A → Result B ItemFault) → Result B ItemFault
(Ok x) >>= f = f x
(Err e) >>= f = Err e

-- the first of these formats that has the code
abbrev pub first_with : ℕ → List Format → Option Format
first_with n [] = None
first_with n (f ∷ fs) = if code f == n then Some f else first_with n fs

-- the formats of this tool
abbrev pub formats : List Format
formats =
    format.List ∷ format.Binary ∷ format.Bool ∷ format.Ascii ∷ format.I8 ∷ format.I1 ∷ format.I2 ∷ format.I4 ∷ format.U8 ∷ format.U1 ∷ format.U2 ∷ format.U4 ∷ []

-- the format with the code
abbrev pub format_with : ℕ → Option Format
format_with n = first_with n formats

-- the format, how many length bytes there are, and what is behind the format byte
abbrev pub known : ℕ → ℕ → List ℕ → Option Format → Result (Format × ℕ × List ℕ) ItemFault
known place b bytes None = Err (fault.BadCode place (b / 4))
known place b bytes (Some f) = Ok (f, b % 4, bytes)

-- the format byte at the front
unfoldable pub format_at : ℕ → List ℕ → Result (Format × ℕ × List ℕ) ItemFault
format_at total [] = Err (fault.Truncated total)
format_at total (b ∷ bytes) =
    let place = total - length (b ∷ bytes) in
    if b % 4 == 0 then Err (fault.BadLengthBytes place) else known place b bytes (format_with (b / 4))

-- the number in so many bytes
unfoldable pub length_at : ℕ → ℕ → List ℕ → Read ℕ
length_at total k bytes = if nat_lt (length bytes) k then Err (fault.Truncated total) else Ok (big_number k bytes, drop k bytes)

-- so many elements of so many bytes each
abbrev pub elements_at : {X : Type 0} → (List ℕ → X) → ℕ → ℕ → List ℕ → List X
elements_at value w zero bytes = []
elements_at value w (suc n) bytes = value bytes ∷ elements_at value w n (drop w bytes)

-- the truth at the front of a body
abbrev pub truth_in : List ℕ → Bool
truth_in bytes = not (slice_index bytes 0 == 0)

-- the unsigned numbers in a body
abbrev pub unsigned_in : ℕ → List ℕ → List ℕ
unsigned_in w body = elements_at (big_number w) w (length body / w) body

-- the signed numbers in a body
abbrev pub signed_in : Width → ℕ → List ℕ → List ℤ
signed_in wide w body = elements_at (λ bytes. cast_signed wide (big_number w bytes)) w (length body / w) body

-- the item that isn't a list, of this format and body
unfoldable pub leaf : Format → List ℕ → Data
leaf format.List body = list no_items
leaf format.Binary body = binary body
leaf format.Bool body = boolean (elements_at truth_in 1 (length body / 1) body)
leaf format.Ascii body = ascii body
leaf format.I1 body = i1 (signed_in w8 1 body)
leaf format.I2 body = i2 (signed_in w16 2 body)
leaf format.I4 body = i4 (signed_in w32 4 body)
leaf format.I8 body = i8 (signed_in w64 8 body)
leaf format.U1 body = u1 body
leaf format.U2 body = u2 (unsigned_in 2 body)
leaf format.U4 body = u4 (unsigned_in 4 body)
leaf format.U8 body = u8 (unsigned_in 8 body)

-- where the first byte stands that is no character, of those in the body of a text
abbrev pub no_character : Format → List ℕ → Option ℕ
no_character format.Ascii body = position (λ b. nat_le 128 b) body
no_character f body = None

-- the body, of which all of the input that there is has been looked at
abbrev pub whole_body : ℕ → Format → ℕ → List ℕ → Option ℕ → Read Data
whole_body total f n bytes (Some i) = Err (fault.BadAscii (total - length bytes + i))
whole_body total f n bytes None = if nat_lt (length bytes) n then Err (fault.Truncated total) else Ok (leaf f (take n bytes), drop n bytes)

-- the body of an item that isn't a list
unfoldable pub body_at : ℕ → Format → ℕ → List ℕ → Read Data
body_at total f n bytes = whole_body total f n bytes (no_character f (take n bytes))

-- the item behind a format byte that stands at this place, but for a list
unfoldable pub leaf_at : ℕ → ℕ → Format → ℕ → List ℕ → Read Data
leaf_at total place f k bytes = do
  n ← length_at total k bytes
  if n.0 % width f == 0 then body_at total f n.0 n.1 else Err (fault.BadWidth place)

-- so many items, each read by the same function
abbrev pub items_at : (List ℕ → Read Data) → ℕ → List ℕ → Read DataList
items_at one zero bytes = Ok (no_items, bytes)
items_at one (suc n) bytes = do
  d ← one bytes
  ds ← items_at one n d.1
  Ok (item d.0 ds.0, ds.1)

-- whether the format is that of lists
abbrev pub is_list : Format → Bool
is_list format.List = true
is_list f = false

-- a list, whose items are read by this function
unfoldable pub list_at : (List ℕ → Read Data) → ℕ → ℕ → List ℕ → Read Data
list_at one total k bytes = do
  n ← length_at total k bytes
  ds ← items_at one n.0 n.1
  Ok (list ds.0, ds.1)

-- an item, in which lists may stand inside one another to so many levels
unfoldable pub item_at : ℕ → ℕ → List ℕ → Read Data
item_at zero total bytes = do
  f ← format_at total bytes
  if is_list f.0 then Err (fault.TooDeep (total - length bytes)) else leaf_at total (total - length bytes) f.0 f.1 f.2
item_at (suc levels) total bytes = do
  f ← format_at total bytes
  if is_list f.0 then list_at (item_at levels total) total f.1 f.2 else leaf_at total (total - length bytes) f.0 f.1 f.2
