-- The tables of a location and of a substrate (after SEMI E90, substrate location, transport and processing states; this tool's
-- profile, tables 11 to 13). What a row wants and does besides the state is told here by a word, and is said of substrates,
-- commands and jobs together in the crates above. Locations are ordered by number: the slots port by port, then the aligner,
-- the arm and the chambers. Substrates are ordered by their numbers of registration.
use Rattle.std.specs.Prelude.{ℕ, List, [], ◌∷◌}
use Rattle.gem_tables.specs.Table.{Row, by_input, by_itself, by_creation}
use Rattle.substrate.specs.declared.record.Occupancy.{Occupancy}
use Rattle.substrate.specs.declared.record.Occupancy.TheVariants.{Unoccupied, Occupied}
use Rattle.substrate.specs.declared.record.Transport.{Transport}
use Rattle.substrate.specs.declared.record.Transport.TheVariants.{AtSource, AtWork, AtDestination}
use Rattle.substrate.specs.declared.record.Processing.{Processing}
use Rattle.substrate.specs.declared.record.Processing.TheVariants.{NeedsProcessing, InProcess, Processed, Aborted, Stopped, Rejected, Lost, Skipped}

-- what a row wants besides the state
pub data SubstrateWant : Type 0 where
  nothing_more : SubstrateWant
  -- a substrate is at the location, or none is
  substrate_there : SubstrateWant
  none_there : SubstrateWant
  -- the substrate is outside: at the aligner, on the arm or in a chamber
  outside : SubstrateWant
  -- it is in its slot
  in_slot : SubstrateWant
  -- an open Process command names it
  process_names_it : SubstrateWant
  -- it is in its slot, its job is STOPPING or ABORTING, and no open command names it
  in_slot_of_ending_job : SubstrateWant
  -- it is outside, its job is STOPPING, or ABORTING, and where it is IN PROCESS no open Process command names it
  outside_of_stopping_job : SubstrateWant
  outside_of_aborting_job : SubstrateWant

-- what a row does besides the state
pub data SubstrateEffect : Type 0 where
  no_more : SubstrateEffect
  -- the substrate has no location any more
  loses_place : SubstrateEffect

-- a row of a table of a location or a substrate over these states
abbrev pub SubstrateRow : Type 0 → Type 0
SubstrateRow S = Row S SubstrateWant SubstrateEffect

-- ---- location
--
--   +------------+   1 by itself   +----------+
--   | UNOCCUPIED | --------------> | OCCUPIED |
--   +------------+ <-------------- +----------+
--                    2 by itself

-- the numbers of the states (after SEMI E90)
abbrev pub occupancy_number : Occupancy → ℕ
occupancy_number Unoccupied = 0
occupancy_number Occupied = 1

-- Table 11. A location begins UNOCCUPIED.
abbrev pub occupancy_table : List (SubstrateRow Occupancy)
occupancy_table =
    by_itself 1 (Unoccupied ∷ []) substrate_there Occupied no_more
    ∷ by_itself 2 (Occupied ∷ []) none_there Unoccupied no_more
    ∷ []

-- ---- transport
--
--    1 registered   +-----------+   2 outside   +---------+   3 in its slot   +----------------+
--   --------------> | AT SOURCE | ------------> | AT WORK | ----------------> | AT DESTINATION |
--                   +-----------+               +---------+                   +----------------+

-- the numbers of the states (after SEMI E90)
abbrev pub transport_number : Transport → ℕ
transport_number AtSource = 0
transport_number AtWork = 1
transport_number AtDestination = 2

-- Table 12. A substrate goes back to the slot that it came from.
abbrev pub transport_table : List (SubstrateRow Transport)
transport_table =
    -- registered
    by_creation 1 nothing_more AtSource no_more
    ∷ by_itself 2 (AtSource ∷ []) outside AtWork no_more
    ∷ by_itself 3 (AtWork ∷ []) in_slot AtDestination no_more
    ∷ []

-- ---- processing
--
--    1 registered   +------------------+   2 Process is open      +------------+
--   --------------> | NEEDS PROCESSING | -----------------------> | IN PROCESS |
--                   +------------------+                          +------------+
--                     |       |       |                         |     |        |
--                     | 5     | 6     | 7            6, 7 between |     | 4 ends | 3 Done of
--                     |       |       |              two steps    |     | other- | the last
--                     v       v       v                           v     v wise   v step
--             +---------+ +---------+ +---------+  STOPPED, ABORTED   ABORTED   +-----------+
--             | SKIPPED | | STOPPED | | ABORTED |                               | PROCESSED |
--             +---------+ +---------+ +---------+                               +-----------+
--
--    8 `lost`: from every state but LOST to LOST. 5 REJECTED isn't reached.

-- the numbers of the states (after SEMI E90)
abbrev pub processing_number : Processing → ℕ
processing_number NeedsProcessing = 0
processing_number InProcess = 1
processing_number Processed = 2
processing_number Aborted = 3
processing_number Stopped = 4
processing_number Rejected = 5
processing_number Lost = 6
processing_number Skipped = 7

-- every state but LOST
abbrev pub not_lost : List Processing
not_lost = NeedsProcessing ∷ InProcess ∷ Processed ∷ Aborted ∷ Stopped ∷ Rejected ∷ Skipped ∷ []

-- Table 13.
abbrev pub processing_table : List (SubstrateRow Processing)
processing_table =
    -- registered
    by_creation 1 nothing_more NeedsProcessing no_more
    ∷ by_itself 2 (NeedsProcessing ∷ []) process_names_it InProcess no_more
    -- Done of Process of the last step of its route, where its job isn't ABORTING
    ∷ by_input 3 (InProcess ∷ []) nothing_more Processed no_more
    -- Done of Process, where its job is ABORTING; Failed or Down of its chamber
    ∷ by_input 4 (InProcess ∷ []) nothing_more Aborted no_more
    ∷ by_itself 5 (NeedsProcessing ∷ []) in_slot_of_ending_job Skipped no_more
    ∷ by_itself 6 (NeedsProcessing ∷ InProcess ∷ []) outside_of_stopping_job Stopped no_more
    ∷ by_itself 7 (NeedsProcessing ∷ InProcess ∷ []) outside_of_aborting_job Aborted no_more
    -- the operator's `lost`
    ∷ by_input 8 not_lost nothing_more Lost loses_place
    ∷ []
