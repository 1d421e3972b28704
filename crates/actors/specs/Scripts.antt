-- What a script says (this tool's profile, scripts).
use Rattle.std.specs.Prelude.{ℕ, ◌+◌, if◌then◌else◌, List, [], ◌∷◌, ◌++◌, Result, Ok, Err}
use Rattle.tool_events.specs.declared.event.Event.{Event}
use Rattle.tool_events.specs.declared.event.Event.TheVariants as event
use Rattle.text_lines.specs.Lines.{lines_of}
use Rattle.line_grammar.specs.declared.line.Line.{Line}
use Rattle.line_grammar.specs.declared.line.Line.TheVariants as line
use Rattle.line_grammar.specs.Texts.{is_quit}
use Rattle.line_grammar.specs.Reading.{script_line_of}

-- what a line of a script posts: a watch is posted until it is answered
abbrev pub line_events : Line → List Event
line_events (line.Oper command) = event.Oper command ∷ []
line_events (line.Signal signal) = event.Signal signal ∷ []
line_events (line.Watch port) = event.Watch port ∷ []
line_events _ = []

-- Where a script stops: nowhere, at the line of this number that is outside the grammar, at this place of it, or behind the
-- line of this number, which is `O quit`. Lines are counted from 1.
pub data ScriptStop : Type 0 where
  AllSaid : ScriptStop
  OutsideGrammar : ℕ → ℕ → ScriptStop
  QuitAt : ℕ → ScriptStop

-- the events of a script, and where it stops
pub record Script : Type 0 where
  pub events : List Event
  pub stop : ScriptStop

-- these events first
abbrev pub behind : List Event → Script → Script
behind events script = record script { events = events ++ script.events }

-- what a line says, by how it is read, and what the lines behind it say
abbrev pub line_says : ℕ → Result Line ℕ → Script → Script
line_says number (Err place) more = record { events = []; stop = OutsideGrammar number place }
line_says number (Ok says) more =
    behind (line_events says) (if is_quit says then record { events = []; stop = QuitAt number } else more)

-- what lines say, the first of which has this number
abbrev pub lines_say : ℕ → List (List ℕ) → Script
lines_say number [] = record { events = []; stop = AllSaid }
lines_say number (text ∷ lines) = line_says number (script_line_of text) (lines_say (number + 1) lines)

-- what a text says as a script
abbrev pub script_of : List ℕ → Script
script_of text = lines_say 1 (lines_of text)
