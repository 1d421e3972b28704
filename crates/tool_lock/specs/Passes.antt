-- What a clause says of a pass and of its turnstile.
use Rattle.std.specs.Prelude.{◌≡◌, ℕ, List}
use Rattle.tool_lock.specs.Turned.{front_of, mine_of, Starts}
use Rattle.tool_lock.specs.declared.kept.Kept.{Ghosts}
use Rattle.tool_lock.specs.declared.pass.Pass.{Pass}
use Rattle.tool_lock.specs.declared.table.Turnstile.{Turnstile}

module _ {V E G : Type 0} {K : Ghosts V E G} where
  -- the number that its entries have
  abbrev pub pass_number : Pass V E G K → ℕ
  pass_number pass = pass.number

  -- the beginning of the history that it knows, which is the history at the end of its last turn
  abbrev pub front : Pass V E G K → List E
  front pass = front_of pass.seat.me.0.claims

  -- the entries that it appended
  abbrev pub mine : Pass V E G K → List E
  mine pass = mine_of pass.seat.me.0.claims

  -- it is a pass of this turnstile, and knows the opening state of its value
  abbrev pub IsPassOf : Turnstile V E G → Pass V E G K → Type 0
  IsPassOf turnstile pass = (pass.seat.table_id ≡ turnstile.table.shared.table_id) × Starts pass.seat.me.0.claims (K.opening turnstile.table.shared.key.start.value)

-- how many passes it has
abbrev pub pass_count : {V E G : Type 0} → Turnstile V E G → ℕ
pass_count turnstile = turnstile.table.shared.key.count

-- the value that it was opened with
abbrev pub start : {V E G : Type 0} → Turnstile V E G → V
start turnstile = turnstile.table.shared.key.start.value
