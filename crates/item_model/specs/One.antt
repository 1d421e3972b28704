-- A text that is one item.
use Rattle.std.specs.Prelude.{ℕ, List, [], ◌∷◌, length, Option, Some, None, Ok, Err}
use Rattle.item_model.specs.Data.{Data}
use Rattle.item_model.specs.Reading.{Read, item_at}

-- what was read, where no byte stands behind it
abbrev pub whole : Read Data → Option Data
whole (Ok (d, [])) = Some d
whole (Ok (d, b ∷ bytes)) = None
whole (Err e) = None

-- The item that a text spells from its first byte to its last, where it is one item (SEMI E5, message text of one item).
-- It is a function, since the steps of the tool compute with it; in the words of the grammar it is the `d` with
-- `Spells d 0 text` (the law `one_item_is_the_item_that_is_spelled`).
abbrev pub one_item : List ℕ → Option Data
one_item text = whole (item_at 16 (length text) text)
