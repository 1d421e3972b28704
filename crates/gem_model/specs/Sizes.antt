-- How much a history holds, and when it is full.
use Rattle.std.specs.Prelude.{ℕ, ◌+◌, ◌-◌, ◌^◌, min, Bool, ◌||◌, nat_lt, nat_le, List, length, sum_by}
use Rattle.tool_events.specs.declared.entry.Entry.{Entry}
use Rattle.tool_events.specs.declared.event.Event.{Event}
use Rattle.tool_events.specs.declared.config.Config.{Config}
use Rattle.tool_events.specs.Sizes.{event_bytes}

-- the bytes of text of the recorded frames (this tool's profile, statuses)
abbrev pub bytes_of : List Entry → ℕ
bytes_of entries = sum_by (λ (e : Entry). event_bytes e.event) entries

-- the history takes this event no more: it has the greatest number of entries, or its text would be too much
-- (this tool's profile, statuses)
abbrev pub is_full : Config → List Entry → Event → Bool
is_full c history event =
    nat_le c.max_entries (length history) || nat_lt c.max_bytes (bytes_of history + event_bytes event)

-- a count stands still at the greatest that its 64 bits hold (this tool's profile, limits)
abbrev pub counted : ℕ → ℕ
counted n = min n (2 ^ 64 - 1)
