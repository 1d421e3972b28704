-- What the states of a carrier are in its tables, and what a row does to them (after SEMI E87; this tool's profile).
use Rattle.std.specs.Prelude.{ℕ, ◌==◌, Bool, true, false, if◌then◌else◌}
use Rattle.gem_tables.specs.Table.{starts, after}
use Rattle.carrier.specs.Tables.{id_table, id_number, map_table, map_number, accessing_table, access_number}
use Rattle.carrier.specs.declared.record.IdState.{IdState}
use Rattle.carrier.specs.declared.record.IdState.TheVariants as id
use Rattle.carrier.specs.declared.record.MapState.{MapState}
use Rattle.carrier.specs.declared.record.MapState.TheVariants as slots
use Rattle.carrier.specs.declared.record.Accessing.{Accessing}
use Rattle.carrier.specs.declared.record.Accessing.TheVariants as access
use Rattle.carrier.specs.declared.record.CarrierRecord.{CarrierRecord}

-- ---- the rows

-- a carrier as it is created: ID NOT READ, slot map NOT READ, NOT ACCESSED (this tool's profile, tables 8 to 10)
abbrev pub first_record : CarrierRecord
first_record = record { id = id.NotRead; map = slots.NotRead; access = access.NotAccessed }

-- a row of one of the three tables starts at these states; the row that creates a carrier starts at none
abbrev pub carrier_starts : ℕ → ℕ → CarrierRecord → Bool
carrier_starts table row c =
    if table == 8 then starts id_number id_table row c.id
    else (if table == 9 then starts map_number map_table row c.map
    else (if table == 10 then starts access_number accessing_table row c.access else false))

-- the states behind a row: its end, in its own table; a row that doesn't start leaves them
abbrev pub carrier_fired : ℕ → ℕ → CarrierRecord → CarrierRecord
carrier_fired table row c =
    if table == 8 then record c { id = after id_number id_table row c.id }
    else (if table == 9 then record c { map = after map_number map_table row c.map }
    else (if table == 10 then record c { access = after access_number accessing_table row c.access } else c))

-- ---- what the states say

abbrev pub is_id_waiting : IdState → Bool
is_id_waiting id.WaitingForHost = true
is_id_waiting _ = false

abbrev pub is_id_not_read : IdState → Bool
is_id_not_read id.NotRead = true
is_id_not_read _ = false

abbrev pub is_id_verified : IdState → Bool
is_id_verified id.Verified = true
is_id_verified _ = false

abbrev pub is_id_failed : IdState → Bool
is_id_failed id.VerificationFailed = true
is_id_failed _ = false

abbrev pub is_map_waiting : MapState → Bool
is_map_waiting slots.WaitingForHost = true
is_map_waiting _ = false

abbrev pub is_map_not_read : MapState → Bool
is_map_not_read slots.NotRead = true
is_map_not_read _ = false

abbrev pub is_map_verified : MapState → Bool
is_map_verified slots.Verified = true
is_map_verified _ = false

abbrev pub is_map_failed : MapState → Bool
is_map_failed slots.VerificationFailed = true
is_map_failed _ = false

abbrev pub is_not_accessed : Accessing → Bool
is_not_accessed access.NotAccessed = true
is_not_accessed _ = false

-- CARRIER COMPLETE or CARRIER STOPPED
abbrev pub is_done : Accessing → Bool
is_done access.Complete = true
is_done access.Stopped = true
is_done _ = false
