-- Values that are handed in, and items that come to stand behind others.
use Rattle.std.specs.Prelude.{◌≡◌, ℕ, Option, Some}
use Rattle.item_model.specs.Data.{Data, DataList, no_items, item}
use Rattle.item_model.specs.Weight.{IsBounded}

-- each variable that has a value has a small one: no list of lists, and at most 84 bytes
abbrev pub AreSmallValues : (ℕ → Option Data) → Type 0
AreSmallValues value = (vid : ℕ) (d : Data) → value vid ≡ Some d → IsBounded 1 84 d

-- the items of a list, and those of another behind them
abbrev pub joined : DataList → DataList → DataList
joined no_items more = more
joined (item d ds) more = item d (joined ds more)
