-- A list inside a list is less high.
use Rattle.std.specs.Prelude.{◌≤◌, max, List, [], ◌∷◌}
use Rattle.std.proofs.Common.{arith}
use denote.Param.Weighed.{most}
use Rattle.item_model.specs.declared.item.Item.{Item}
use Rattle.item_model.specs.declared.item.Item.TheVariants as kind
use Rattle.item_model.specs.declared.item.Items.TheDeep.{deep-Item}
use Rattle.item_model.specs.Height.{height, highest}
use Rattle.item_model.specs.View.{view, items_of}

-- an item is no deeper than it is high
deep-height : (x : Item) → deep-Item x ≤ height (view x)
deep-height (kind.List ds) = omega arith
deep-height (kind.Binary bs) = omega arith
deep-height (kind.Bool bs) = omega arith
deep-height (kind.Ascii bs) = omega arith
deep-height (kind.I1 zs) = omega arith
deep-height (kind.I2 zs) = omega arith
deep-height (kind.I4 zs) = omega arith
deep-height (kind.I8 zs) = omega arith
deep-height (kind.U1 ns) = omega arith
deep-height (kind.U2 ns) = omega arith
deep-height (kind.U4 ns) = omega arith
deep-height (kind.U8 ns) = omega arith

-- the deepest of some items is no deeper than the highest of them
pub most-highest : (xs : List Item) → max (most deep-Item xs) 0 ≤ highest (items_of xs)
most-highest [] = omega arith
most-highest (x ∷ xs) = omega (arith, deep-height x, most-highest xs)
