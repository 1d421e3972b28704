-- The history that a text of lines makes (this tool's profile, what an input line does).
use Rattle.std.specs.Prelude.{ℕ, ◌+◌, Bool, ◌&&◌, is_some, if◌then◌else◌, List, [], ◌∷◌, ◌++◌, length, drop, map, Result, Ok, Err}
use Rattle.hsms_frame.specs.declared.frame.Arrival.{Arrival}
use Rattle.hsms_frame.specs.Cut.{arrivals_of, behind_of, is_short}
use Rattle.tool_events.specs.declared.event.Event.{Event}
use Rattle.tool_events.specs.declared.event.Event.TheVariants as event
use Rattle.tool_events.specs.declared.entry.Entry.{Entry}
use Rattle.tool_events.specs.declared.event.SessionCause.TheVariants.{PeerEnd, ShortLength}
use Rattle.tool_events.specs.declared.config.Config.{Config}
use Rattle.gem_model.specs.State.{State, opening, is_up, is_session_up}
use Rattle.gem_model.specs.Step.{step, after}
use Rattle.floor_model.specs.Floor.{module_numbers}
use Rattle.gem_model.specs.Run.{after_all}
use Rattle.tool_events.specs.Sizes.{text_bytes}
use Rattle.text_lines.specs.Lines.{lines_of}
use Rattle.line_grammar.specs.Texts.{is_quit}
use Rattle.line_grammar.specs.declared.line.Line.{Line}
use Rattle.line_grammar.specs.declared.line.Line.TheVariants as line
use Rattle.line_grammar.specs.Reading.{feed_line_of}

-- an entry of the one seat, 0
abbrev pub entry_of : ℕ → Event → Entry
entry_of at event = record { seat = 0; at = record { 0 = at }; event = event }

-- the writer takes each frame that waits, the oldest first (this tool's profile, what an input line does)
abbrev pub takes : State → List Entry
takes g = if is_up g then map (λ _. entry_of 0 (event.Take g.link.session)) g.waiting else []

-- what a line gives: its entries, and the state after them
pub record Given : Type 0 where
  pub entries : List Entry
  pub state : State

-- no entries, and the same state
abbrev pub nothing : State → Given
nothing g = record { entries = []; state = g }

-- one entry, and the state that it leads to
abbrev pub entered : State → ℕ → Event → Given
entered g at event = record { entries = entry_of at event ∷ []; state = after g at event }

-- all frames that wait are taken
abbrev pub taken_all : State → Given
taken_all g = record { entries = takes g; state = after_all g (takes g) }

-- these entries first
abbrev pub behind : List Entry → Given → Given
behind entries more = record more { entries = entries ++ more.entries }

-- one part, and the next in the state after it
abbrev pub and_then : Given → (State → Given) → Given
and_then first more = behind first.entries (more first.state)

-- the module of a number fetches, where it has a command that was not fetched
abbrev pub fetched_one : ℕ → State → Given
fetched_one m g =
    if is_some (step g 0 (event.Fetch (record { 0 = m }))) then entered g 0 (event.Fetch (record { 0 = m })) else nothing g

-- the modules of these numbers fetch, one after another (this tool's profile, what an input line does)
abbrev pub fetched_by : List ℕ → State → Given
fetched_by [] g = nothing g
fetched_by (m ∷ ms) g = and_then (fetched_one m g) (fetched_by ms)

-- all modules fetch, in the order of their numbers; none does once the operator ended the run
abbrev pub fetched_all : State → Given
fetched_all g = if g.quitting then nothing g else fetched_by (module_numbers 1 g.floor.modules) g

-- What one input gives, which has a step: its entry; then all frames that wait are taken; and then the modules fetch their
-- commands (this tool's profile, what an input line does).
abbrev pub input : State → ℕ → Event → Given
input g at event = and_then (and_then (entered g at event) taken_all) fetched_all

-- one message of a session
abbrev pub message : State → ℕ → Arrival → Given
message g session arrival = input g 0 (event.Host session arrival)

-- The messages of a session, in order, and then the end of the session where a length below 10 follows them.
-- What comes behind the end of the session is dropped (this tool's profile, cutting a stream).
abbrev pub messages : State → ℕ → List Arrival → Bool → Given
messages g session [] short =
    if short && is_session_up g session then input g 0 (event.LinkDown session ShortLength) else nothing g
messages g session (arrival ∷ arrivals) short =
    if is_session_up g session then and_then (message g session arrival) (λ h. messages h session arrivals short)
    else nothing g

-- where a reader of lines stands: the state, and the bytes that came in the session that is up
pub record Reading : Type 0 where
  pub state : State
  pub stream : List ℕ

-- the reading before the first line: the first state, in which no byte came
abbrev pub first_reading : Config → Reading
first_reading c = record { state = opening c; stream = [] }

-- what bytes of the session give: what becomes whole of the stream by them (this tool's profile, cutting a stream)
abbrev pub bytes_given : Reading → List ℕ → Given
bytes_given r bytes =
    let arrivals = drop (length (arrivals_of text_bytes r.stream)) (arrivals_of text_bytes (r.stream ++ bytes)) in
    messages r.state r.state.link.session arrivals (is_short (behind_of (r.stream ++ bytes)))

-- What a line gives; without a session bytes are dropped, and a lost link is skipped; a moment at which nothing is due
-- gives nothing (this tool's profile, what an input line does). A line that `feed` refuses gives nothing.
abbrev pub line_given : Reading → Line → Given
line_given r line.Skip = nothing r.state
line_given r line.Up = input r.state 0 event.LinkUp
line_given r line.Down = if is_up r.state then input r.state 0 (event.LinkDown r.state.link.session PeerEnd) else nothing r.state
line_given r (line.Bytes bytes) = if is_up r.state then bytes_given r bytes else nothing r.state
line_given r (line.Moment at) = if is_some (step r.state at.0 event.Tick) then input r.state at.0 event.Tick else nothing r.state
line_given r (line.Oper command) = input r.state 0 (event.Oper command)
line_given r (line.Signal signal) = input r.state 0 (event.Signal signal)
line_given r (line.Watch port) = nothing r.state

-- the bytes of the session after a line: a new session begins with none (this tool's profile, cutting a stream)
abbrev pub stream_after : Reading → Line → List ℕ
stream_after r line.Up = if is_up r.state then r.stream else []
stream_after r (line.Bytes bytes) = r.stream ++ bytes
stream_after r _ = r.stream

-- the reading after a line
abbrev pub reading_after : Reading → Line → Reading
reading_after r says = record { state = (line_given r says).state; stream = stream_after r says }

-- Where a text of lines stops: nowhere, at the line of this number that is outside the grammar, at this place of it, or
-- behind the line of this number, which is `O quit` (this tool's profile, statuses). Lines are counted from 1.
pub data Stop : Type 0 where
  AllRead : Stop
  OutsideGrammar : ℕ → ℕ → Stop
  QuitAt : ℕ → Stop

-- the entries of a text, and where it stops
pub record Told : Type 0 where
  pub entries : List Entry
  pub stop : Stop

-- these entries first, and then what is told
abbrev pub told_behind : List Entry → Told → Told
told_behind entries told = record told { entries = entries ++ told.entries }

-- What a line tells, by what it says, and what follows it tells in the reading after it. A text stops before a line
-- outside the grammar, and behind `O quit` (this tool's profile, input lines).
abbrev pub line_told : ℕ → Reading → Result Line ℕ → (Reading → Told) → Told
line_told number r (Err place) more = record { entries = []; stop = OutsideGrammar number place }
line_told number r (Ok says) more =
    told_behind (line_given r says).entries
    (if is_quit says then record { entries = []; stop = QuitAt number } else more (reading_after r says))

-- what lines tell, the first of which has this number
abbrev pub feed_lines : ℕ → Reading → List (List ℕ) → Told
feed_lines number r [] = record { entries = []; stop = AllRead }
feed_lines number r (text ∷ lines) = line_told number r (feed_line_of text) (λ next. feed_lines (number + 1) next lines)

-- the entries of a text, where no limit of the history stops it
abbrev pub feed_entries : Config → List ℕ → Told
feed_entries c text = feed_lines 1 (first_reading c) (lines_of text)
