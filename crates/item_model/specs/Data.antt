-- What an item says: its kind and its elements, without where it lies in memory.
use Rattle.std.specs.Prelude.{ℕ, zero, suc, ℤ, Bool, List}

mutual
  -- one item (SEMI E5, data items): I4 has signed numbers of four bytes, U4 unsigned ones
  pub data Data : Type 0 where
    list : DataList → Data
    binary : List ℕ → Data
    boolean : List Bool → Data
    ascii : List ℕ → Data
    i1 : List ℤ → Data
    i2 : List ℤ → Data
    i4 : List ℤ → Data
    i8 : List ℤ → Data
    u1 : List ℕ → Data
    u2 : List ℕ → Data
    u4 : List ℕ → Data
    u8 : List ℕ → Data

  -- the items in a list
  pub data DataList : Type 0 where
    no_items : DataList
    item : Data → DataList → DataList

-- the items of a list with one more at its end
abbrev pub added : DataList → Data → DataList
added no_items d = item d no_items
added (item e ds) d = item e (added ds d)

-- so many items of a list from the first on; all of them where there are no more
abbrev pub first_items : ℕ → DataList → DataList
first_items zero ds = no_items
first_items (suc n) no_items = no_items
first_items (suc n) (item d ds) = item d (first_items n ds)
