-- The code that the value of a type with an item needs. No clause speaks of it.
use Rattle.std.specs.Prelude.{ℕ, List, refl}
use Rattle.std.specs.Coded.{Coded, code_by, coded_ℕ, coded_list, coded×}
use Rattle.item_model.specs.Data.{Data, DataList, list, no_items, item}
use Rattle.item_model.specs.Stored.{items_code}

-- the first of some items
abbrev first : DataList → Data
first no_items = list no_items
first (item d ds) = d

-- an item, told apart as a list of one
abbrev item_code : Coded Data
item_code = code_by DataList items_code (λ d. item d no_items) first (λ _. refl)

-- a number and an item
abbrev pub number_code : Coded (ℕ × Data)
number_code = coded× coded_ℕ item_code

-- a text and an item
abbrev pub text_code : Coded (List ℕ × Data)
text_code = coded× (coded_list coded_ℕ) item_code
