-- How system bytes are drawn, and a transaction is started (SEMI E5, block and message identification; this tool's
-- profile, the link).
use Rattle.std.specs.Prelude.{ℕ, zero, suc, ◌+◌, ◌%◌, ◌^◌, not, if◌then◌else◌, List, [], ◌∷◌, ◌++◌, length, find, unwrap_or}
use Rattle.transactions.specs.declared.transaction.What.{What}
use Rattle.transactions.specs.Table.{Table, has_system, is_full}

-- the system bytes so many behind these: they are four bytes, and 0 follows the last
abbrev pub behind : ℕ → ℕ → ℕ
behind system steps = (system + steps) % 2 ^ 32

-- so many system bytes in turn, from the one that is this many behind
abbrev pub in_turn : ℕ → ℕ → ℕ → List ℕ
in_turn system steps zero = []
in_turn system steps (suc n) = behind system steps ∷ in_turn system (steps + 1) n

-- The system bytes that are drawn: the first, from the counter on, that no open transaction has. Of one more in turn
-- than are open, one is free.
abbrev pub drawn : Table → ℕ
drawn table = unwrap_or (find (λ system. not (has_system table.opened system)) (in_turn table.next 0 (suc (length table.opened)))) table.next

-- the table after system bytes were drawn: the counter stands behind them
abbrev pub after_draw : Table → Table
after_draw table = record table { next = behind (drawn table) 1 }

-- a transaction that is started: it has the system bytes drawn, and stands last
abbrev pub with_started : ℕ → ℕ → ℕ → What → Table → Table
with_started stream function deadline what table = record {
  next = behind (drawn table) 1;
  opened = table.opened ++ record { system = drawn table; stream = stream; function = function; deadline = deadline; what = what } ∷ [];
}

-- the table after a start, which changes nothing where no more can be started
abbrev pub after_start : ℕ → ℕ → ℕ → What → Table → Table
after_start stream function deadline what table = if is_full table then table else with_started stream function deadline what table
