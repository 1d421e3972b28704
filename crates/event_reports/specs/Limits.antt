-- How many reports there can be, and how much each can hold (this tool's profile, limits).
use Rattle.std.specs.Prelude.{ℕ}

-- reports that are defined at once
abbrev pub most_reports : ℕ
most_reports = 256

-- VIDs of a report
abbrev pub most_vids : ℕ
most_vids = 64

-- reports that an event is linked to
abbrev pub most_linked : ℕ
most_linked = 16

-- alarms of a plant
abbrev pub most_alarms : ℕ
most_alarms = 17
