-- Rows that keep what holds of the floor of the tool wherever they start, and rows that fire one behind the other (this tool's profile,
-- tables 4 to 16, and direct rows).
use Rattle.std.specs.Prelude.{ℕ, ◌==◌, Bool, not, ◌&&◌, ◌||◌, if◌then◌else◌, List, [], ◌∷◌}
use Rattle.gem_tables.specs.Table.{is_one_of}
use Rattle.gem_tables.specs.declared.firing.Firing.{Firing}
use Rattle.floor_model.specs.Floor.{ToolFloor}
use Rattle.floor_model.specs.Machines.{floor_starts, floor_fired}

-- a row of table 10, 13 or 16 does: none but CancelCarrier; those of a registration, of a Process that is open, and of a process job that
-- ends; and those that issue commands, and `up`
abbrev pub is_common_row : ℕ → ℕ → Bool
is_common_row table row =
    (table == 10) && not (row == 4)
    || ((table == 13) && is_one_of (1 ∷ 2 ∷ 5 ∷ []) row || (table == 16) && is_one_of (1 ∷ 2 ∷ 3 ∷ 4 ∷ 10 ∷ []) row)

-- The row is none of those that inputs fire together with another or under a condition of theirs: 3 and 5 of table 4, 2 and 6 of table 7, 4
-- of table 10, 3, 4 and 8 of table 13 and 5 to 9 of table 16; nor is it 6 or 7 of table 13, which keep what holds only where row 2 is not
-- ready.
abbrev pub is_common : Firing → Bool
is_common x =
    not ((x.row.table == 4) && is_one_of (3 ∷ 5 ∷ []) x.row.row || (x.row.table == 7) && is_one_of (2 ∷ 6 ∷ []) x.row.row)
    && (is_one_of (1 ∷ 2 ∷ 3 ∷ 4 ∷ 5 ∷ 6 ∷ 7 ∷ 8 ∷ 9 ∷ 11 ∷ 12 ∷ 14 ∷ 15 ∷ []) x.row.table || is_common_row x.row.table x.row.row)

-- a row fires where it starts
abbrev pub one_listed : Firing → ToolFloor → ToolFloor
one_listed x f = if floor_starts x f then floor_fired x f else f

-- each that starts fires, one behind the other
abbrev pub listed : List Firing → ToolFloor → ToolFloor
listed [] f = f
listed (x ∷ xs) f = listed xs (one_listed x f)
