-- What the states of a location and of a substrate are in their tables, and what a row does to them (after SEMI E90; this
-- tool's profile).
use Rattle.std.specs.Prelude.{ℕ, ◌==◌, Bool, true, false, if◌then◌else◌}
use Rattle.gem_tables.specs.Table.{starts, after}
use Rattle.substrate.specs.Tables.{occupancy_table, occupancy_number, transport_table, transport_number, processing_table, processing_number}
use Rattle.substrate.specs.declared.record.Occupancy.TheVariants.{Unoccupied}
use Rattle.substrate.specs.declared.record.Transport.{Transport}
use Rattle.substrate.specs.declared.record.Transport.TheVariants.{AtSource}
use Rattle.substrate.specs.declared.record.Processing.{Processing}
use Rattle.substrate.specs.declared.record.Processing.TheVariants.{NeedsProcessing, InProcess}
use Rattle.substrate.specs.declared.record.LocationRecord.{LocationRecord}
use Rattle.substrate.specs.declared.record.SubstrateRecord.{SubstrateRecord}

-- ---- the rows

-- a location as it begins: UNOCCUPIED (this tool's profile, table 11)
abbrev pub first_location : LocationRecord
first_location = record { occupancy = Unoccupied }

-- a row of table 11 starts at this state
abbrev pub location_starts : ℕ → LocationRecord → Bool
location_starts row l = starts occupancy_number occupancy_table row l.occupancy

-- the state behind it; a row that doesn't start leaves it
abbrev pub location_fired : ℕ → LocationRecord → LocationRecord
location_fired row l = record l { occupancy = after occupancy_number occupancy_table row l.occupancy }

-- a substrate as it is registered: AT SOURCE, NEEDS PROCESSING (this tool's profile, tables 12 and 13)
abbrev pub first_record : SubstrateRecord
first_record = record { transport = AtSource; processing = NeedsProcessing }

-- a row of one of the two tables starts at these states; the rows that a registration fires start at none
abbrev pub substrate_starts : ℕ → ℕ → SubstrateRecord → Bool
substrate_starts table row s =
    if table == 12 then starts transport_number transport_table row s.transport
    else (if table == 13 then starts processing_number processing_table row s.processing else false)

-- the states behind a row: its end, in its own table; a row that doesn't start leaves them
abbrev pub substrate_fired : ℕ → ℕ → SubstrateRecord → SubstrateRecord
substrate_fired table row s =
    if table == 12 then record s { transport = after transport_number transport_table row s.transport }
    else (if table == 13 then record s { processing = after processing_number processing_table row s.processing } else s)

-- ---- what the states say

-- AT SOURCE
abbrev pub is_at_source : Transport → Bool
is_at_source AtSource = true
is_at_source _ = false

-- NEEDS PROCESSING
abbrev pub is_needing : Processing → Bool
is_needing NeedsProcessing = true
is_needing _ = false

-- IN PROCESS
abbrev pub is_in_process : Processing → Bool
is_in_process InProcess = true
is_in_process _ = false

-- the substrate is finished: it is neither NEEDS PROCESSING nor IN PROCESS (this tool's profile, moves)
abbrev pub is_finished : Processing → Bool
is_finished NeedsProcessing = false
is_finished InProcess = false
is_finished _ = true
