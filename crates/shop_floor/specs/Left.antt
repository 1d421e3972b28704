-- The number that falls at each firing by itself, which is why the ports and the carriers come to rest.
use Rattle.std.specs.Prelude.{ℕ, ◌+◌, ◌==◌, ◌&&◌, Bool, if◌then◌else◌, List, [], ◌∷◌, is_some}
use Rattle.gem_tables.specs.declared.firing.Firing.{Firing}
use Rattle.load_port.specs.declared.port.Port.{Port}
use Rattle.load_port.specs.Record.{is_blocked, is_reserved, is_associated}
use Rattle.carrier.specs.declared.carrier.Carrier.{Carrier}
use Rattle.carrier.specs.declared.record.Accessing.{Accessing}
use Rattle.carrier.specs.declared.record.Accessing.TheVariants as access
use Rattle.carrier.specs.Record.{is_id_not_read, is_map_not_read}
use Rattle.shop_floor.specs.Floor.{Floor}

-- so much, where a test holds
abbrev pub weighs : ℕ → Bool → ℕ
weighs n b = if b then n else 0

-- a port counts 1 for TRANSFER BLOCKED, RESERVED and ASSOCIATED each, and 300 where a carrier came, which is more than what
-- the carrier counts that may be created
abbrev pub port_left : Port → ℕ
port_left p =
    weighs 1 (is_blocked p.states.transfer) + weighs 1 (is_reserved p.states.reservation) + weighs 1 (is_associated p.states.association)
    + weighs 300 (is_some p.arrival)

-- NOT ACCESSED counts 2, and IN ACCESS 1
abbrev pub access_left : Accessing → ℕ
access_left access.NotAccessed = 2
access_left access.InAccess = 1
access_left _ = 0

-- a carrier counts 1 for ID NOT READ, 200 for a map NOT READ, which is more than what the substrates count that it may register,
-- and what its accessing counts
abbrev pub carrier_left : Carrier → ℕ
carrier_left c = weighs 1 (is_id_not_read c.states.id) + weighs 200 (is_map_not_read c.states.map) + access_left c.states.access

abbrev pub ports_left : List Port → ℕ
ports_left [] = 0
ports_left (p ∷ ps) = port_left p + ports_left ps

abbrev pub carriers_left : List Carrier → ℕ
carriers_left [] = 0
carriers_left (c ∷ cs) = carrier_left c + carriers_left cs

-- by so much more what is left falls with the row that verifies a map by itself
abbrev pub map_falls : Firing → ℕ
map_falls x = weighs 199 ((x.row.table == 9) && (x.row.row == 1))

-- what is left to fire by itself
abbrev pub floor_left : Floor → ℕ
floor_left f = ports_left f.ports + carriers_left f.carriers
