-- How many bytes an item takes at most where it is sent, and items that stay within bounds.
use Rattle.std.specs.Prelude.{ℕ, ◌+◌, ◌*◌, ◌≤◌, length}
use Rattle.item_model.specs.Data.{Data, DataList, list, binary, boolean, ascii, i1, i2, i4, i8, u1, u2, u4, u8, no_items, item}
use Rattle.item_model.specs.Height.{height}
use Rattle.item_model.specs.Sendable.{HasShortBodies}

abbrev mutual
  -- a format byte and at most three length bytes, and the body (SEMI E5, item header)
  pub weight : Data → ℕ
  weight (list ds) = 4 + weight_all ds
  weight (binary bs) = 4 + length bs
  weight (boolean bs) = 4 + length bs
  weight (ascii bs) = 4 + length bs
  weight (i8 zs) = 4 + 8 * length zs
  weight (i1 zs) = 4 + length zs
  weight (i2 zs) = 4 + 2 * length zs
  weight (i4 zs) = 4 + 4 * length zs
  weight (u8 ns) = 4 + 8 * length ns
  weight (u1 ns) = 4 + length ns
  weight (u2 ns) = 4 + 2 * length ns
  weight (u4 ns) = 4 + 4 * length ns

  -- the same of the items of a list together
  pub weight_all : DataList → ℕ
  weight_all no_items = 0
  weight_all (item d ds) = weight d + weight_all ds

-- the lists of the item nest at most so deep, it takes at most so many bytes, and each body has a spelling
pub record IsBounded (deep most : ℕ) (d : Data) : Type 0 where
  pub depth : height d ≤ deep
  pub size : weight d ≤ most
  pub bodies : HasShortBodies d

-- each item of a list stays within such bounds
abbrev pub AreBounded : ℕ → ℕ → DataList → Type 0
AreBounded deep most no_items = Unit {0}
AreBounded deep most (item d ds) = IsBounded deep most d × AreBounded deep most ds
