-- The tool's open transactions (SEMI E5, transaction protocol; this tool's profile, tool primaries).
use Rattle.std.specs.Prelude.{◌≡◌, ℕ, ◌≤◌, Bool, false, not, ◌==◌, nat_le, List, [], ◌∷◌, length, filter, Option, Some, None}
use Rattle.std.specs.List.{list_any}
use Rattle.transactions.specs.declared.transaction.Open.{Open}

-- the counter of system bytes, which numbers the tool's next message, and the open transactions in the order of their
-- start, the oldest first
pub record Table : Type 0 where
  pub next : ℕ
  pub opened : List Open

-- none is open, and the first system bytes are 1
abbrev pub none_open : Table
none_open = record { next = 1; opened = [] }

-- so many are open at most
abbrev pub limit : ℕ
limit = 16

-- no more can be started
abbrev pub is_full : Table → Bool
is_full table = nat_le limit (length table.opened)

-- an open transaction has these system bytes
abbrev pub has_system : List Open → ℕ → Bool
has_system opened system = list_any (λ open_one. open_one.system == system) opened

-- no two open transactions have the same system bytes
abbrev pub AreDifferent : List Open → Type 0
AreDifferent [] = Unit {0}
AreDifferent (one ∷ others) = (has_system others one.system ≡ false) × AreDifferent others

-- what is always true: no more are open than can be, and each has system bytes of its own
pub record IsTable (table : Table) : Type 0 where
  pub within : length table.opened ≤ limit
  pub different : AreDifferent table.opened

-- all but the one with these system bytes
abbrev pub without : ℕ → List Open → List Open
without system opened = filter (λ open_one. not (open_one.system == system)) opened

-- the table without this transaction, and the same table where there is none
abbrev pub taken_out : Option Open → Table → Table
taken_out None table = table
taken_out (Some one) table = record table { opened = without one.system table.opened }
