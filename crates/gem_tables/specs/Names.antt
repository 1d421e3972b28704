-- The transition tables by name, and the numbers by which they are printed (this tool's profile, transition tables).
use Rattle.std.specs.Prelude.{ℕ, ◌==◌, if◌then◌else◌, List, [], ◌∷◌, Option, Some, None}
use Rattle.gem_tables.specs.declared.table.Table.{Table}
use Rattle.gem_tables.specs.declared.table.Table.TheVariants.{Communication, Control, Line, Transfer, Access, Reservation, Association, CarrierId, SlotMap, Accessing, Location, Transport, Processing, ProcessJob, ControlJob, Moves}

-- the number of a table
abbrev pub table_number : Table → ℕ
table_number Communication = 1
table_number Control = 2
table_number Line = 3
table_number Transfer = 4
table_number Access = 5
table_number Reservation = 6
table_number Association = 7
table_number CarrierId = 8
table_number SlotMap = 9
table_number Accessing = 10
table_number Location = 11
table_number Transport = 12
table_number Processing = 13
table_number ProcessJob = 14
table_number ControlJob = 15
table_number Moves = 16

-- all of them
abbrev pub tables : List Table
tables =
    Communication ∷ Control ∷ Line
    ∷ Transfer ∷ Access ∷ Reservation ∷ Association
    ∷ CarrierId ∷ SlotMap ∷ Accessing
    ∷ Location ∷ Transport ∷ Processing
    ∷ ProcessJob ∷ ControlJob ∷ Moves ∷ []

-- the first of these tables that has the number
abbrev pub numbered : ℕ → List Table → Option Table
numbered n [] = None
numbered n (table ∷ others) = if n == table_number table then Some table else numbered n others

-- the table of a number
abbrev pub table_of : ℕ → Option Table
table_of n = numbered n tables
