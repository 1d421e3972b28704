-- Which rows of the transition tables have a collection event, and its CEID (SEMI E30, event notification; this tool's
-- profile, transition tables).
use Rattle.std.specs.Prelude.{ℕ, zero, suc, ◌+◌, ◌-◌, ◌*◌, ◌/◌, ◌%◌, ◌==◌, Bool, nat_le, ◌&&◌, if◌then◌else◌, List, [], ◌∷◌, Option, Some, None}
use Rattle.std.specs.List.{list_any, flat_map}
use Rattle.gem_tables.specs.declared.firing.RowId.{RowId}

-- a line: a table, and a first and a last row of it, which have events as all rows between them
pub record EventLine : Type 0 where
  pub table : ℕ
  pub first : ℕ
  pub last : ℕ

-- a line, as the list prints it
abbrev pub rows : ℕ → ℕ → ℕ → EventLine
rows table first last = record { table = table; first = first; last = last }

-- The rows with events: all of tables 2 to 15, but of table 3 rows 1 and 9 alone. Table 1, communication, and table 16,
-- commands to the modules, have none.
abbrev pub event_lines : List EventLine
event_lines =
    -- control
    rows 2 1 11
    -- the spool becomes active, and is empty again
    ∷ rows 3 1 1
    ∷ rows 3 9 9
    -- ports: transfer, access, reservation, association
    ∷ rows 4 1 5
    ∷ rows 5 1 2
    ∷ rows 6 1 3
    ∷ rows 7 1 7
    -- carriers: id, slot map, accessing
    ∷ rows 8 1 5
    ∷ rows 9 1 4
    ∷ rows 10 1 4
    -- locations
    ∷ rows 11 1 2
    -- substrates: transport, processing
    ∷ rows 12 1 3
    ∷ rows 13 1 8
    -- process jobs, control jobs
    ∷ rows 14 1 18
    ∷ rows 15 1 12
    ∷ []

-- a row of a table has an event
abbrev pub has_event : ℕ → ℕ → Bool
has_event table row = list_any (λ l. (l.table == table) && nat_le l.first row && nat_le row l.last) event_lines

-- the CEID of a row that has an event: 100 times its table plus its row
abbrev pub ceid_of : ℕ → ℕ → Option ℕ
ceid_of table row = if has_event table row then Some (100 * table + row) else None

-- a number is a CEID
abbrev pub is_ceid : ℕ → Bool
is_ceid ceid = has_event (ceid / 100) (ceid % 100)

-- the row whose event has the CEID
abbrev pub row_of : ℕ → Option RowId
row_of ceid = if is_ceid ceid then Some (record { table = ceid / 100; row = ceid % 100 }) else None

-- so many numbers, rising by one from the first
abbrev pub numbers_from : ℕ → ℕ → List ℕ
numbers_from first zero = []
numbers_from first (suc more) = first ∷ numbers_from (first + 1) more

-- the CEIDs of a line
abbrev pub line_ceids : EventLine → List ℕ
line_ceids l = numbers_from (100 * l.table + l.first) (l.last + 1 - l.first)

-- all CEIDs, rising
abbrev pub ceids : List ℕ
ceids = flat_map line_ceids event_lines
