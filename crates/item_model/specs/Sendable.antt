-- Which items can be sent.
use Rattle.std.specs.Prelude.{ℕ, ◌*◌, ◌^◌, ◌<◌, ◌≤◌, length}
use Rattle.std.specs.List.{All}
use Rattle.item_model.specs.Data.{Data, DataList, list, binary, boolean, ascii, i1, i2, i4, i8, u1, u2, u4, u8, no_items, item}
use Rattle.item_model.specs.Height.{height}
use Rattle.item_model.specs.Plain.{count_of}

-- a length that three length bytes hold (SEMI E5, item header)
abbrev pub IsLength : ℕ → Type 0
IsLength n = n < 2 ^ 24

abbrev mutual
  -- each length fits its length bytes, and each character is ASCII (SEMI E5, item formats)
  pub HasShortBodies : Data → Type 0
  HasShortBodies (list ds) = IsLength (count_of ds) × HaveShortBodies ds
  HasShortBodies (binary bs) = IsLength (length bs)
  HasShortBodies (boolean bs) = IsLength (length bs)
  HasShortBodies (ascii bs) = IsLength (length bs) × All (λ b. b < 128) bs
  HasShortBodies (i8 zs) = IsLength (8 * length zs)
  HasShortBodies (i1 zs) = IsLength (length zs)
  HasShortBodies (i2 zs) = IsLength (2 * length zs)
  HasShortBodies (i4 zs) = IsLength (4 * length zs)
  HasShortBodies (u8 ns) = IsLength (8 * length ns)
  HasShortBodies (u1 ns) = IsLength (length ns)
  HasShortBodies (u2 ns) = IsLength (2 * length ns)
  HasShortBodies (u4 ns) = IsLength (4 * length ns)

  -- the same of each item of a list
  pub HaveShortBodies : DataList → Type 0
  HaveShortBodies no_items = Unit {0}
  HaveShortBodies (item d ds) = HasShortBodies d × HaveShortBodies ds

-- at most 16 lists stand inside one another (this tool's profile, items), and each body has a spelling
pub record IsSendable (d : Data) : Type 0 where
  pub depth : height d ≤ 16
  pub bodies : HasShortBodies d
