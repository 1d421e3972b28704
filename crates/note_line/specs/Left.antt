-- How much the line can still do by itself (this tool's profile, settling).
use Rattle.std.specs.Prelude.{ℕ, ◌+◌, ◌*◌, not, ◌||◌, ◌==◌, if◌then◌else◌, length}
use Rattle.spool.specs.Spool.{load_number, unload_number}
use Rattle.note_line.specs.Line.{Line}

-- 3 in TRANSMIT or PURGE; in NO OUTPUT 1 where INACTIVE, and 2 where ACTIVE without a note
abbrev pub of_states : ℕ → ℕ → ℕ → ℕ
of_states load unload notes = if not (unload == 0) then 3 else (if load == 0 then 1 else (if notes == 0 then 2 else 0))

-- 1 where the spool is ACTIVE and FULL disagrees with how many notes it has
abbrev pub disagrees : ℕ → ℕ → ℕ → ℕ
disagrees load capacity notes =
    if load == 0 then 0
    else (if load == 2 then (if notes == capacity then 0 else 1) else (if notes == capacity then 1 else 0))

-- 8 for each step that the states of the spool can still make, 6 for each note that waits, 3 for each that is spooled
abbrev pub weight : ℕ → ℕ → ℕ → ℕ → ℕ → ℕ
weight load unload capacity notes waiting =
    8 * of_states load unload notes + (6 * waiting + (3 * notes + disagrees load capacity notes))

-- a number that falls with each row that fires by itself
abbrev pub left : Line → ℕ
left l = weight (load_number l.spool.load) (unload_number l.spool.unload) l.spool.capacity (length l.spool.notes) (length l.waiting)

-- what the note weighs that may tell of a row: rows 1 and 9 have events
abbrev pub told_weight : ℕ → ℕ
told_weight row = if (row == 1) || (row == 9) then 6 else 0
