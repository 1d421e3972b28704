-- What an `Item` says.
use Rattle.std.specs.Prelude.{ℕ, List, [], ◌∷◌}
use Rattle.item_model.specs.Data.{Data, DataList, list, binary, boolean, ascii, i1, i2, i4, i8, u1, u2, u4, u8, no_items, item}
use Rattle.item_model.specs.declared.item.Item.{Item}
use Rattle.item_model.specs.declared.item.Item.TheVariants as kind

-- the kind and the elements, variant by variant
abbrev pub view : Item → Data
view (kind.List ds) = list ds
view (kind.Binary bs) = binary bs
view (kind.Bool bs) = boolean bs
view (kind.Ascii bs) = ascii bs
view (kind.I1 zs) = i1 zs
view (kind.I2 zs) = i2 zs
view (kind.I4 zs) = i4 zs
view (kind.I8 zs) = i8 zs
view (kind.U1 ns) = u1 ns
view (kind.U2 ns) = u2 ns
view (kind.U4 ns) = u4 ns
view (kind.U8 ns) = u8 ns

-- what the items say, one after another
abbrev pub items_of : List Item → DataList
items_of [] = no_items
items_of (x ∷ xs) = item (view x) (items_of xs)

-- an item and how many bytes it takes
abbrev pub seen : Item × ℕ → Data × ℕ
seen r = (view r.0, r.1)
