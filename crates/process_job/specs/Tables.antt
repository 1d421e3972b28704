-- The table of a process job (after SEMI E40, process job states; this tool's profile, table 14). What a row wants and does besides
-- the state is told here by a word, and is said of jobs, carriers, substrates and commands together in the crates above. Process
-- jobs are ordered by their numbers of creation.
use Rattle.std.specs.Prelude.{ℕ, List, [], ◌∷◌}
use Rattle.gem_tables.specs.Table.{Row, by_input, by_itself, by_creation}
use Rattle.process_job.specs.declared.record.JobState.{JobState}
use Rattle.process_job.specs.declared.record.JobState.TheVariants.{Queued, SettingUp, WaitingForStart, Processing, Complete, Pausing, Paused, Stopping, Aborting}

-- what a row wants besides the state
pub data JobWant : Type 0 where
  nothing_more : JobWant
  -- the job is the first left in its EXECUTING control job, which isn't ending, and its material is here
  first_left : JobWant
  -- it is started by hand, or automatically
  start_by_hand : JobWant
  automatic_start : JobWant
  -- each member is finished, and in its slot or removed
  settled : JobWant
  -- no member is outside, and no open command names one
  none_outside : JobWant
  -- its control job is ending; it ends by stop, or by abort
  control_job_ends : JobWant
  control_job_stops : JobWant
  control_job_aborts : JobWant

-- what a row does besides the state
pub data JobEffect : Type 0 where
  no_more : JobEffect
  -- the job gets its members
  makes_members : JobEffect
  -- the job leaves its control job and is forgotten; besides, its carriers are marked stopped
  ends : JobEffect
  ends_stopped : JobEffect

-- a row of the table of a process job
abbrev pub JobRow : Type 0
JobRow = Row JobState JobWant JobEffect

-- ---- process job
--
--    1 created   +--------+   2 by itself   +------------+   3 by hand   +-------------------+
--   -----------> | QUEUED | --------------> | SETTING UP | ------------> | WAITING FOR START |
--                +--------+                 +------------+               +-------------------+
--                    |                            |                                |
--                    | 15 CANCEL                  | 4 automatic                    | 5 START
--                    | 16 by itself               v                                |
--                    v                      +------------+                         |
--                  ended                    | PROCESSING | <-----------------------+
--                                           +------------+
--                                             |  |     ^
--                                   6 settled |  |     | 10 RESUME
--                                             |  |     +----------------+-------------------+
--                                             |  |                      |                   |
--                                             |  |   8 PAUSE       +---------+   9      +--------+
--                                             |  +---------------> | PAUSING | -------> | PAUSED |
--                                             v                    +---------+          +--------+
--                                   +------------------+   7
--                                   | PROCESS COMPLETE | -----> ended
--                                   +------------------+
--
--    11 STOP and 17: from SETTING UP, WAITING FOR START, PROCESSING, PAUSING and PAUSED to STOPPING.
--    12 ABORT and 18: from these and from STOPPING to ABORTING.
--
--   +----------+   13 settled             +----------+   14 settled
--   | STOPPING | -------------> ended     | ABORTING | -------------> ended
--   +----------+                          +----------+

-- the numbers of the states (after SEMI E40)
abbrev pub job_number : JobState → ℕ
job_number Queued = 0
job_number SettingUp = 1
job_number WaitingForStart = 2
job_number Processing = 3
job_number Complete = 4
job_number Pausing = 6
job_number Paused = 7
job_number Stopping = 8
job_number Aborting = 9

-- the states in which a job is begun and isn't ending
abbrev pub begun : List JobState
begun = SettingUp ∷ WaitingForStart ∷ Processing ∷ Pausing ∷ Paused ∷ []

-- the same, or STOPPING
abbrev pub begun_or_stopping : List JobState
begun_or_stopping = SettingUp ∷ WaitingForStart ∷ Processing ∷ Pausing ∷ Paused ∷ Stopping ∷ []

-- Table 14. A job that ends keeps its state until it is forgotten.
abbrev pub job_table : List JobRow
job_table =
    by_creation 1 nothing_more Queued no_more
    ∷ by_itself 2 (Queued ∷ []) first_left SettingUp makes_members
    ∷ by_itself 3 (SettingUp ∷ []) start_by_hand WaitingForStart no_more
    ∷ by_itself 4 (SettingUp ∷ []) automatic_start Processing no_more
    -- START
    ∷ by_input 5 (WaitingForStart ∷ []) nothing_more Processing no_more
    ∷ by_itself 6 (Processing ∷ []) settled Complete no_more
    ∷ by_itself 7 (Complete ∷ []) nothing_more Complete ends
    -- PAUSE
    ∷ by_input 8 (Processing ∷ []) nothing_more Pausing no_more
    ∷ by_itself 9 (Pausing ∷ []) none_outside Paused no_more
    -- RESUME
    ∷ by_input 10 (Pausing ∷ Paused ∷ []) nothing_more Processing no_more
    -- STOP
    ∷ by_input 11 begun nothing_more Stopping no_more
    -- ABORT
    ∷ by_input 12 begun_or_stopping nothing_more Aborting no_more
    ∷ by_itself 13 (Stopping ∷ []) settled Stopping ends_stopped
    ∷ by_itself 14 (Aborting ∷ []) settled Aborting ends_stopped
    -- CANCEL, and S16F17
    ∷ by_input 15 (Queued ∷ []) nothing_more Queued ends
    ∷ by_itself 16 (Queued ∷ []) control_job_ends Queued ends
    ∷ by_itself 17 begun control_job_stops Stopping no_more
    ∷ by_itself 18 begun_or_stopping control_job_aborts Aborting no_more
    ∷ []
