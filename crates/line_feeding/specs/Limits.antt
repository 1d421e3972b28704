-- Where a run stops at its limits.
use Rattle.text_lines.specs.Lines.{whole_lines}
use Rattle.std.specs.Prelude.{◌≡◌, ℕ, List, length}
use Rattle.tool_events.specs.declared.config.Config.{Config}
use Rattle.tool_events.specs.declared.entry.Entry.{Entry}
use Rattle.gem_model.specs.Feed.{AllRead, feed_entries}

-- the greatest input, in bytes (this tool's profile, limits)
abbrev pub input_bytes : ℕ
input_bytes = 4294967296

-- so many bytes of input were read, and the history is that of the whole lines
abbrev pub MeetsBound : Config → List ℕ → List Entry → Type 0
MeetsBound c text history =
    (feed_entries c (whole_lines text) ≡ record { entries = history; stop = AllRead }) × (length text ≡ input_bytes)
