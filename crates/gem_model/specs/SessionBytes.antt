-- How many bytes a text of lines gives to each session (this tool's profile, sessions).
use Rattle.std.specs.Prelude.{ℕ, ◌+◌, if◌then◌else◌, List, [], ◌∷◌, length, Result, Ok, Err}
use Rattle.text_lines.specs.Lines.{lines_of}
use Rattle.line_grammar.specs.declared.line.Line.{Line}
use Rattle.line_grammar.specs.declared.line.Line.TheVariants as line
use Rattle.line_grammar.specs.Reading.{feed_line_of}
use Rattle.tool_events.specs.declared.config.Config.{Config}
use Rattle.gem_model.specs.State.{is_session_up}
use Rattle.line_grammar.specs.Texts.{is_quit}
use Rattle.gem_model.specs.Feed.{Reading, first_reading, reading_after}

-- the bytes that a line gives to this session: those of the host, where it is the session that is up (this tool's
-- profile, sessions)
abbrev pub line_bytes_in : Reading → Line → ℕ → ℕ
line_bytes_in r (line.Bytes bytes) session = if is_session_up r.state session then length bytes else 0
line_bytes_in r _ session = 0

-- what a line gives to this session, by what it says, and what follows it in the reading after it
abbrev pub line_and_more : Reading → Result Line ℕ → ℕ → (Reading → ℕ) → ℕ
line_and_more r (Err place) session more = 0
line_and_more r (Ok says) session more =
    line_bytes_in r says session + (if is_quit says then 0 else more (reading_after r says))

-- the bytes that lines give to this session; none come from a line outside the grammar on, and none behind `O quit` (this
-- tool's profile, sessions)
abbrev pub lines_bytes_in : Reading → List (List ℕ) → ℕ → ℕ
lines_bytes_in r [] session = 0
lines_bytes_in r (text ∷ lines) session =
    line_and_more r (feed_line_of text) session (λ next. lines_bytes_in next lines session)

-- the bytes that the lines of a text give to this session (this tool's profile, sessions)
abbrev pub session_in : Config → List ℕ → ℕ → ℕ
session_in c text session = lines_bytes_in (first_reading c) (lines_of text) session
