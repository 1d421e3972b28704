-- How many bytes the host of a batch told the tool (this tool's profile, batch and sessions).
use Rattle.std.specs.Prelude.{ℕ, ◌+◌, ◌==◌, if◌then◌else◌, List, [], ◌∷◌, length}
use Rattle.hsms_frame.specs.declared.frame.Arrival.{Arrival}
use Rattle.hsms_frame.specs.declared.frame.Arrival.TheVariants as arrival
use Rattle.tool_events.specs.declared.event.Event.{Event}
use Rattle.tool_events.specs.declared.event.Event.TheVariants as event
use Rattle.tool_events.specs.declared.entry.Entry.{Entry}

-- the bytes of a message: length and header, 14 bytes, and the text (SEMI E37, message format)
abbrev pub arrival_bytes : Arrival → ℕ
arrival_bytes (arrival.Frame f) = 14 + length f.text
arrival_bytes (arrival.TooLong header field) = 4 + field

-- those that an event brings to a session
abbrev pub event_bytes_in : Event → ℕ → ℕ
event_bytes_in (event.Host s message) session = if s == session then arrival_bytes message else 0
event_bytes_in _ session = 0

-- those of the messages of a session that stand in a history
abbrev pub bytes_told : List Entry → ℕ → ℕ
bytes_told [] session = 0
bytes_told (entry ∷ entries) session = event_bytes_in entry.event session + bytes_told entries session
