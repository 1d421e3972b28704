-- Items that are one number or a text.
use Rattle.std.specs.Prelude.{ℕ, ◌^◌, nat_lt, if◌then◌else◌, ℤ, pos, negsuc, List, [], ◌∷◌, Option, Some, None, option_and_then}
use Rattle.item_model.specs.Data.{Data, i1, i2, i4, i8, u1, u2, u4, u8}

-- the element of a list of one
abbrev pub only : {X : Type 0} → List X → Option X
only [] = None
only (x ∷ []) = Some x
only (x ∷ y ∷ xs) = None

-- an id is a number from 0 to 4,294,967,295 (this tool's profile, items); no negative number is one
abbrev pub unsigned_id : ℕ → Option ℕ
unsigned_id n = if nat_lt n (2 ^ 32) then Some n else None

-- the same of a signed number
abbrev pub signed_id : ℤ → Option ℕ
signed_id (pos n) = unsigned_id n
signed_id (negsuc n) = None

-- the id that an integer item of one element is; no other item is one (this tool's profile, items)
abbrev pub id_of : Data → Option ℕ
id_of (i1 zs) = option_and_then signed_id (only zs)
id_of (i2 zs) = option_and_then signed_id (only zs)
id_of (i4 zs) = option_and_then signed_id (only zs)
id_of (i8 zs) = option_and_then signed_id (only zs)
id_of (u1 ns) = option_and_then unsigned_id (only ns)
id_of (u2 ns) = option_and_then unsigned_id (only ns)
id_of (u4 ns) = option_and_then unsigned_id (only ns)
id_of (u8 ns) = option_and_then unsigned_id (only ns)
id_of d = None
