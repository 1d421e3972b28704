-- What a row of a carrier wants besides the state of its table (after SEMI E87; this tool's profile, tables 8 to 10).
use Rattle.std.specs.Prelude.{Bool, true, false, ◌&&◌}
use Rattle.carrier.specs.Tables as want
use Rattle.carrier.specs.Tables.{CarrierWant}
use Rattle.carrier.specs.Record.{is_id_verified}
use Rattle.carrier.specs.Carriers.{is_usable, is_host_map}
use Rattle.carrier.specs.declared.carrier.Carrier.{Carrier}

-- the carrier is present, and its id is VERIFIED
abbrev pub is_verified : Carrier → Bool
is_verified c = c.present && is_id_verified c.states.id

-- What a row wants is so of the carrier itself. What rows 1 to 3 of table 10 want is said of its substrates and of process jobs, so
-- it stands in the crates that know them: by the carrier alone no substrate is outside its slot, and none came back.
abbrev pub carrier_wants : CarrierWant → Carrier → Bool
carrier_wants want.nothing_more c = true
carrier_wants want.present c = c.present
carrier_wants want.bound_and_read c = c.present && (c.bound && c.is_read)
carrier_wants want.id_verified c = is_verified c
carrier_wants want.map_of_the_host c = is_verified c && (is_usable c.map && is_host_map c.map c.host_map)
carrier_wants want.substrate_outside c = false
carrier_wants want.quiet c = false
carrier_wants want.quiet_and_stopped c = false
