-- What the states of a control job are in its table, and what a row does to them (after SEMI E94; this tool's profile).
use Rattle.std.specs.Prelude.{ℕ, Bool, true, false}
use Rattle.gem_tables.specs.Table.{starts, after}
use Rattle.control_job.specs.Tables.{control_table, states_number, not_ending}
use Rattle.control_job.specs.declared.record.ControlState.{ControlState}
use Rattle.control_job.specs.declared.record.ControlState.TheVariants.{Queued, Completed}
use Rattle.control_job.specs.declared.record.ControlJobRecord.{ControlJobRecord}

-- ---- the rows

-- a control job as it is created: QUEUED, and not ending (this tool's profile, table 15)
abbrev pub first_record : ControlJobRecord
first_record = not_ending Queued

-- a row of table 15 starts at these states; the row that creates a control job starts at none
abbrev pub control_starts : ℕ → ControlJobRecord → Bool
control_starts row s = starts states_number control_table row s

-- the states behind a row: its end; a row that doesn't start leaves them
abbrev pub control_fired : ℕ → ControlJobRecord → ControlJobRecord
control_fired row s = after states_number control_table row s

-- ---- what the states say

-- QUEUED
abbrev pub is_queued : ControlState → Bool
is_queued Queued = true
is_queued _ = false

-- COMPLETED
abbrev pub is_completed : ControlState → Bool
is_completed Completed = true
is_completed _ = false

-- SELECTED, WAITING FOR START, EXECUTING or PAUSED
abbrev pub is_active : ControlState → Bool
is_active Queued = false
is_active Completed = false
is_active _ = true
