-- The bytes that the host told, of the sessions that have a number.
use Rattle.std.specs.Prelude.{ℕ, zero, suc, List}
use Rattle.tool_events.specs.declared.event.Event.{Event}
use Rattle.tool_events.specs.declared.entry.Entry.{Entry}
use Rattle.batch_model.specs.Told.{event_bytes_in, bytes_told}

-- Sessions are numbered from 1: those that an event brings to a session, and none to session 0.
abbrev pub numbered_bytes_in : Event → ℕ → ℕ
numbered_bytes_in event zero = 0
numbered_bytes_in event (suc session) = event_bytes_in event (suc session)

-- those of a history, likewise
abbrev pub numbered_bytes : List Entry → ℕ → ℕ
numbered_bytes entries zero = 0
numbered_bytes entries (suc session) = bytes_told entries (suc session)
