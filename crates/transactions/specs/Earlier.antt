-- The earlier of two transactions.
use Rattle.std.specs.Prelude.{if◌then◌else◌, Option, Some, None}
use Rattle.transactions.specs.declared.transaction.Open.{Open}
use Rattle.transactions.specs.Endings.{is_before}

-- the earlier one of a transaction and the one that was first so far
abbrev pub earlier : Option Open → Open → Open
earlier None one = one
earlier (Some other) one = if is_before one other then one else other
