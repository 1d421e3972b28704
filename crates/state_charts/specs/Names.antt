-- How a picture names its arrows.
use Rattle.std.specs.Prelude.{ℕ, List, [], ◌++◌, Option, Some, None, codes}
use Rattle.std.specs.Fmt.{decimal}
use Rattle.state_arrows.specs.declared.arrow.Arrow.{Arrow}

-- an end of an arrow behind a word, by the number of its state; one that is no state isn't named
abbrev pub end_name : List ℕ → Option ℕ → List ℕ
end_name word None = []
end_name word (Some state) = word ++ decimal state

-- an arrow: the number of its row, and from which state to which it leads
abbrev pub arrow_name : Arrow → List ℕ
arrow_name a = codes "row " ++ (decimal a.row ++ (end_name (codes " from ") a.from ++ end_name (codes " to ") a.to))
