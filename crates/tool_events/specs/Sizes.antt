-- How much text an event holds, and may hold.
use Rattle.std.specs.Prelude.{ℕ, length}
use Rattle.hsms_frame.specs.declared.frame.Arrival.{Arrival}
use Rattle.hsms_frame.specs.declared.frame.Arrival.TheVariants as arrival
use Rattle.tool_events.specs.declared.event.Event.{Event}
use Rattle.tool_events.specs.declared.event.Event.TheVariants as event

-- the text of a frame; one that is too long counts 0 (this tool's profile, statuses)
abbrev pub arrival_bytes : Arrival → ℕ
arrival_bytes (arrival.Frame f) = length f.text
arrival_bytes (arrival.TooLong header field) = 0

-- only a message of the host holds text
abbrev pub event_bytes : Event → ℕ
event_bytes (event.Host session arrival) = arrival_bytes arrival
event_bytes _ = 0

-- the longest text of a message, in bytes (this tool's profile, limits)
abbrev pub text_bytes : ℕ
text_bytes = 262144
