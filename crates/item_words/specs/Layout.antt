-- The words of an item in lines, where one line is too short for them (this tool's profile, items in words).
use Rattle.std.specs.Prelude.{ℕ, ◌+◌, nat_le, if◌then◌else◌, List, [], ◌∷◌, ◌++◌, length, replicate, codes}
use Rattle.item_model.specs.Data.{Data, DataList, list, no_items, item}
use Rattle.item_words.specs.Words.{words}

-- the columns of a line
abbrev pub line_width : ℕ
line_width = 100

-- a line feed, and so many blanks at the beginning of the next line
abbrev pub new_line : ℕ → List ℕ
new_line margin = 10 ∷ replicate margin 32

abbrev mutual
  -- An item behind so many columns: its words, where they fit the line; else, of a list, its brackets, and between them each item on
  -- lines of its own, two columns further in. Another item has one line, whatever its length.
  pub laid : ℕ → Data → List ℕ
  laid margin (list ds) =
      if nat_le (margin + length (words (list ds))) line_width then words (list ds)
      else codes "L[" ++ (laid_items (margin + 2) ds ++ (new_line margin ++ codes "]"))
  laid margin d = words d

  -- the items of a list, each on lines of its own, with a comma between two
  pub laid_items : ℕ → DataList → List ℕ
  laid_items margin no_items = []
  laid_items margin (item d ds) = new_line margin ++ (laid margin d ++ more_laid margin ds)

  -- items behind another
  pub more_laid : ℕ → DataList → List ℕ
  more_laid margin no_items = []
  more_laid margin (item d ds) = codes "," ++ (new_line margin ++ (laid margin d ++ more_laid margin ds))
