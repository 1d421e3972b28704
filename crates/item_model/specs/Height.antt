-- How deep the lists of an item nest.
use Rattle.std.specs.Prelude.{ℕ, suc, max}
use Rattle.item_model.specs.Data.{Data, DataList, list, binary, boolean, ascii, i1, i2, i4, i8, u1, u2, u4, u8, no_items, item}

abbrev mutual
  -- a list is one higher than its highest element (SEMI E5, list items)
  pub height : Data → ℕ
  height (list ds) = suc (highest ds)
  height (binary _) = 0
  height (boolean _) = 0
  height (ascii _) = 0
  height (i1 _) = 0
  height (i2 _) = 0
  height (i4 _) = 0
  height (i8 _) = 0
  height (u1 _) = 0
  height (u2 _) = 0
  height (u4 _) = 0
  height (u8 _) = 0

  -- the height of the highest of these items
  pub highest : DataList → ℕ
  highest no_items = 0
  highest (item d ds) = max (height d) (highest ds)
