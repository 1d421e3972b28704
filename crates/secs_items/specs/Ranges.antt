-- Items whose elements are in the range of their format.
use Rattle.std.specs.Prelude.{◌^◌, FitsSigned}
use Rattle.std.specs.List.{AllByRecursion}
use Rattle.std.specs.Int.{w8, w16, w32, w64}
use Rattle.item_model.specs.Data.{Data, DataList, list, binary, boolean, ascii, i1, i2, i4, i8, u1, u2, u4, u8, no_items, item}
use Rattle.item_model.specs.Spelling.{AreBelow}

abbrev mutual
  -- each number is one of its format's bytes (SEMI E5, item formats)
  pub IsInRange : Data → Type 0
  IsInRange (list ds) = AreInRange ds
  IsInRange (binary bs) = AreBelow (2 ^ 8) bs
  IsInRange (boolean bs) = Unit {0}
  IsInRange (ascii bs) = AreBelow (2 ^ 8) bs
  IsInRange (i1 zs) = AllByRecursion (FitsSigned w8) zs
  IsInRange (i2 zs) = AllByRecursion (FitsSigned w16) zs
  IsInRange (i4 zs) = AllByRecursion (FitsSigned w32) zs
  IsInRange (i8 zs) = AllByRecursion (FitsSigned w64) zs
  IsInRange (u1 ns) = AreBelow (2 ^ 8) ns
  IsInRange (u2 ns) = AreBelow (2 ^ 16) ns
  IsInRange (u4 ns) = AreBelow (2 ^ 32) ns
  IsInRange (u8 ns) = AreBelow (2 ^ 64) ns

  -- the same of each item of a list
  pub AreInRange : DataList → Type 0
  AreInRange no_items = Unit {0}
  AreInRange (item d ds) = IsInRange d × AreInRange ds
