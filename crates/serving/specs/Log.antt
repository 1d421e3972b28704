-- The log of a run of all actors (this tool's profile, serving).
use Rattle.std.specs.Prelude.{ℕ, List, [], ◌∷◌, ◌++◌, length, codes}
use Rattle.std.specs.Fmt.{decimal}
use Rattle.tool_events.specs.declared.config.Config.{Config}
use Rattle.tool_events.specs.declared.entry.Entry.{Entry}
use Rattle.history_parts.specs.declared.totals.Totals.{Totals}
use Rattle.history_parts.specs.Totals.{totals_of}

-- a line: a word and a number
abbrev pub log_line : List ℕ → ℕ → List ℕ
log_line word n = word ++ codes " " ++ decimal n ++ 10 ∷ []

-- the lines of so many entries with these counts
abbrev pub log_lines : ℕ → Totals → List ℕ
log_lines entries t =
    log_line (codes "entries") entries
    ++ (log_line (codes "sessions") t.sessions
    ++ (log_line (codes "notes") t.notes
    ++ (log_line (codes "answered") t.answered
    ++ (log_line (codes "dropped") t.dropped
    ++ (log_line (codes "done") t.done
    ++ log_line (codes "completed") t.completed)))))

-- the log of a history: how many entries it has, and what is counted over it
abbrev pub log_of : Config → List Entry → List ℕ
log_of c history = log_lines (length history) (totals_of c history)
