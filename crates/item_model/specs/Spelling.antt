-- How items are spelled: every spelling that is read, not only the one that the tool sends.
use Rattle.std.specs.Prelude.{◌≡◌, ◌≢◌, ℕ, suc, ◌+◌, ◌*◌, ◌^◌, ◌==◌, ◌<◌, ◌≤◌, ℤ, Bool, not, List, [], ◌∷◌, ◌++◌, length, map, FitsSigned}
use Rattle.std.specs.List.{AllByRecursion}
use Rattle.std.specs.Int.{Width, w8, w16, w32, w64, bytes_high_first}
use Rattle.item_model.specs.Data.{Data, DataList, list, binary, boolean, ascii, i1, i2, i4, i8, u1, u2, u4, u8, no_items, item}
use Rattle.item_model.specs.Format.{code}
use Rattle.item_model.specs.Plain.{count_of, unsigned_bytes, signed_bytes}
use Rattle.item_model.specs.declared.format.Format.{Format}
use Rattle.item_model.specs.declared.format.Format.TheVariants as format

-- a format byte and 1, 2 or 3 length bytes that hold the length, the most significant first (SEMI E5, item header)
abbrev pub IsHead : Format → ℕ → List ℕ → Type 0
IsHead f n head = (k : ℕ) × (1 ≤ k) × (k ≤ 3) × (n < 256 ^ k) × (head ≡ (4 * code f + k) ∷ bytes_high_first k n)

-- a header that tells the length of the body, and the body
abbrev pub IsBehindHead : Format → (List ℕ → Type 0) → List ℕ → Type 0
IsBehindHead f IsBody bytes =
    (head : List ℕ) × (body : List ℕ) × IsHead f (length body) head × IsBody body × (bytes ≡ head ++ body)

-- each of the numbers is below a bound
abbrev pub AreBelow : ℕ → List ℕ → Type 0
AreBelow bound ns = AllByRecursion (λ n. n < bound) ns

-- bytes below a bound, as they are: 256 for bytes and unsigned numbers of one byte, 128 for characters (SEMI E5, item formats)
abbrev pub AreBytes : ℕ → List ℕ → List ℕ → Type 0
AreBytes bound bs body = AreBelow bound bs × (body ≡ bs)

-- one byte for each truth: false is 0, and any other byte is true (SEMI E5, item formats)
abbrev pub AreTruths : List Bool → List ℕ → Type 0
AreTruths truths body = AreBelow 256 body × (truths ≡ map (λ b. not (b == 0)) body)

-- unsigned numbers below a bound as their bytes, the most significant first (SEMI E5, item formats)
abbrev pub AreUnsigned : Width → ℕ → List ℕ → List ℕ → Type 0
AreUnsigned w bound ns body = AreBelow bound ns × (body ≡ unsigned_bytes w ns)

-- the same of signed numbers, in two's complement
abbrev pub AreSigned : Width → List ℤ → List ℕ → Type 0
AreSigned w zs body = AllByRecursion (FitsSigned w) zs × (body ≡ signed_bytes w zs)

abbrev mutual
  -- The bytes spell the item inside so many lists (SEMI E5, item formats). A list announces how many items it has,
  -- and stands inside fewer than 16 lists (this tool's profile, items); any other item announces the bytes of its body.
  pub Spells : Data → ℕ → List ℕ → Type 0
  Spells (list ds) depth bytes =
      (depth < 16) × (head : List ℕ) × (body : List ℕ) × IsHead format.List (count_of ds) head × SpellAll ds (suc depth) body × (bytes ≡ head ++ body)
  Spells (binary bs) depth bytes = IsBehindHead format.Binary (AreBytes 256 bs) bytes
  Spells (boolean bs) depth bytes = IsBehindHead format.Bool (AreTruths bs) bytes
  Spells (ascii bs) depth bytes = IsBehindHead format.Ascii (AreBytes 128 bs) bytes
  Spells (i1 zs) depth bytes = IsBehindHead format.I1 (AreSigned w8 zs) bytes
  Spells (i2 zs) depth bytes = IsBehindHead format.I2 (AreSigned w16 zs) bytes
  Spells (i4 zs) depth bytes = IsBehindHead format.I4 (AreSigned w32 zs) bytes
  Spells (i8 zs) depth bytes = IsBehindHead format.I8 (AreSigned w64 zs) bytes
  Spells (u1 ns) depth bytes = IsBehindHead format.U1 (AreBytes 256 ns) bytes
  Spells (u2 ns) depth bytes = IsBehindHead format.U2 (AreUnsigned w16 (2 ^ 16) ns) bytes
  Spells (u4 ns) depth bytes = IsBehindHead format.U4 (AreUnsigned w32 (2 ^ 32) ns) bytes
  Spells (u8 ns) depth bytes = IsBehindHead format.U8 (AreUnsigned w64 (2 ^ 64) ns) bytes

  -- the items one after another
  pub SpellAll : DataList → ℕ → List ℕ → Type 0
  SpellAll no_items depth bytes = bytes ≡ []
  SpellAll (item d ds) depth bytes =
      (front : List ℕ) × (behind : List ℕ) × Spells d depth front × SpellAll ds depth behind × (bytes ≡ front ++ behind)

-- what is no whole item yet: a proper prefix of a spelling
abbrev pub Open : List ℕ → Type 0
Open bytes = (d : Data) × (rest : List ℕ) × (rest ≢ []) × Spells d 0 (bytes ++ rest)
