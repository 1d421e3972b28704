-- The words that an item of a reply is printed with (SEMI E5, item formats; this tool's profile, messages).
use Rattle.std.specs.Prelude.{ℕ, List, [], ◌∷◌, map}
use Rattle.item_model.specs.Data.{Data, DataList, list, binary, ascii, u1, u4, u8, no_items, item}

-- these items, one after another
abbrev pub items : List Data → DataList
items [] = no_items
items (d ∷ ds) = item d (items ds)

-- L[a, ..]
abbrev pub L : List Data → Data
L ds = list (items ds)

-- L[x*], each x being printed so
abbrev pub each : {X : Type 0} → (X → Data) → List X → Data
each body xs = L (map body xs)

-- A
abbrev pub A : List ℕ → Data
A text = ascii text

-- B
abbrev pub B : List ℕ → Data
B bytes = binary bytes

-- U1 of one element
abbrev pub U1 : ℕ → Data
U1 n = u1 (n ∷ [])

-- U4 of one element
abbrev pub U4 : ℕ → Data
U4 n = u4 (n ∷ [])

-- U8 of one element
abbrev pub U8 : ℕ → Data
U8 n = u8 (n ∷ [])

-- a code: B of one byte
abbrev pub code : ℕ → Data
code n = B (n ∷ [])
