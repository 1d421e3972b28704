-- The summary that a batch prints (this tool's profile, batch).
use Rattle.std.specs.Prelude.{ℕ, List, [], ◌∷◌, ◌++◌, codes}
use Rattle.std.specs.Fmt.{decimal}
use Rattle.tool_events.specs.declared.config.Config.{Config}
use Rattle.tool_events.specs.declared.entry.Entry.{Entry}
use Rattle.history_parts.specs.declared.totals.Totals.{Totals}
use Rattle.history_parts.specs.Totals.{totals_of}

-- a line: a word, a space and a number
abbrev pub number_line : List ℕ → ℕ → List ℕ
number_line word n = word ++ codes " " ++ decimal n ++ 10 ∷ []

-- four lines: how many carriers were asked for, how many substrates were registered, how many commands were ended by Done, and how
-- many control jobs were completed
abbrev pub summary_of : ℕ → Totals → List ℕ
summary_of carriers t =
    number_line (codes "carriers") carriers
    ++ (number_line (codes "substrates") t.substrates
    ++ (number_line (codes "done") t.done
    ++ number_line (codes "completed") t.completed))

-- the summary of a history, of a batch of so many carriers
abbrev pub summary : Config → ℕ → List Entry → List ℕ
summary c carriers history = summary_of carriers (totals_of c history)
