-- The one spelling of an item that the tool sends: the fewest length bytes, and true as 1.
use Rattle.std.specs.Prelude.{ℕ, suc, ◌+◌, ◌*◌, ◌^◌, ℤ, Bool, if◌then◌else◌, nat_lt, List, [], ◌∷◌, ◌++◌, length, drop, map, flat_map}
use Rattle.std.specs.Int.{Width, w8, w16, w32, w64, to_be_bytes, cast_unsigned}
use Rattle.item_model.specs.Data.{Data, DataList, list, binary, boolean, ascii, i1, i2, i4, i8, u1, u2, u4, u8, no_items, item}

-- the format codes (SEMI E5, item format codes, there printed in octal)
abbrev pub code_of : Data → ℕ
code_of (list _) = 0
code_of (binary _) = 8
code_of (boolean _) = 9
code_of (ascii _) = 16
code_of (i8 _) = 24
code_of (i1 _) = 25
code_of (i2 _) = 26
code_of (i4 _) = 28
code_of (u8 _) = 40
code_of (u1 _) = 41
code_of (u2 _) = 42
code_of (u4 _) = 44

-- how many items a list has
abbrev pub count_of : DataList → ℕ
count_of no_items = 0
count_of (item d ds) = suc (count_of ds)

-- a format byte and the fewest length bytes that hold the length, the most significant byte first (SEMI E5, item header)
abbrev pub plain_head : ℕ → ℕ → List ℕ
plain_head code n =
    if nat_lt n (2 ^ 8) then (4 * code + 1) ∷ n ∷ []
    else (if nat_lt n (2 ^ 16) then (4 * code + 2) ∷ to_be_bytes w16 n
    else (4 * code + 3) ∷ drop 1 (to_be_bytes w32 n))

-- unsigned numbers, the most significant byte first (SEMI E5, item formats)
abbrev pub unsigned_bytes : Width → List ℕ → List ℕ
unsigned_bytes w ns = flat_map (to_be_bytes w) ns

-- signed numbers in two's complement, the most significant byte first (SEMI E5, item formats)
abbrev pub signed_bytes : Width → List ℤ → List ℕ
signed_bytes w zs = flat_map (λ z. to_be_bytes w (cast_unsigned w z)) zs

-- one byte for each truth, 1 for true
abbrev pub truth_bytes : List Bool → List ℕ
truth_bytes bs = map (λ b. if b then 1 else 0) bs

abbrev mutual
  -- the header and the body of an item (SEMI E5, item formats)
  pub plain : Data → List ℕ
  plain (list ds) = plain_head 0 (count_of ds) ++ plain_all ds
  plain (binary bs) = plain_head 8 (length bs) ++ bs
  plain (boolean bs) = plain_head 9 (length bs) ++ truth_bytes bs
  plain (ascii bs) = plain_head 16 (length bs) ++ bs
  plain (i8 zs) = plain_head 24 (8 * length zs) ++ signed_bytes w64 zs
  plain (i1 zs) = plain_head 25 (length zs) ++ signed_bytes w8 zs
  plain (i2 zs) = plain_head 26 (2 * length zs) ++ signed_bytes w16 zs
  plain (i4 zs) = plain_head 28 (4 * length zs) ++ signed_bytes w32 zs
  plain (u8 ns) = plain_head 40 (8 * length ns) ++ unsigned_bytes w64 ns
  plain (u1 ns) = plain_head 41 (length ns) ++ ns
  plain (u2 ns) = plain_head 42 (2 * length ns) ++ unsigned_bytes w16 ns
  plain (u4 ns) = plain_head 44 (4 * length ns) ++ unsigned_bytes w32 ns

  -- the items of a list, one after another
  pub plain_all : DataList → List ℕ
  plain_all no_items = []
  plain_all (item d ds) = plain d ++ plain_all ds
