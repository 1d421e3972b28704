-- Whether a row of the floor of the tool is reported.
use Rattle.std.specs.Prelude.{ℕ, Bool, false, Option, Some, None}
use Rattle.gem_rows.specs.Events.{ceid_of}
use Rattle.gem_model.specs.State.{State, is_online}
use Rattle.gem_model.specs.Noting.{is_event_reported}

-- the event, where there is one, is reported of a firing that leaves communication, control and the reports as they are
abbrev pub is_reported_of : Option ℕ → State → Bool
is_reported_of None g = false
is_reported_of (Some ceid) g = is_event_reported ceid (is_online g.control) g

-- A row that leaves communication, control and the reports as they are makes its note (this tool's profile, notes).
abbrev pub is_row_reported : ℕ → ℕ → State → Bool
is_row_reported table row g = is_reported_of (ceid_of table row) g
