-- The table of a control job (after SEMI E94, control job states; this tool's profile, table 15). A row starts in states that say
-- too whether the job is ending. What a row wants and does besides is told here by a word, and is said of control jobs, process
-- jobs and material together in the crates above.
use Rattle.std.specs.Prelude.{ℕ, ◌+◌, ◌*◌, List, [], ◌∷◌}
use Rattle.gem_tables.specs.Table.{Row, by_input, by_itself, by_creation}
use Rattle.control_job.specs.declared.record.ControlState.{ControlState}
use Rattle.control_job.specs.declared.record.ControlState.TheVariants.{Queued, Selected, WaitingForStart, Executing, Paused, Completed}
use Rattle.control_job.specs.declared.record.Ending.{Ending}
use Rattle.control_job.specs.declared.record.Ending.TheVariants.{No, ByStop, ByAbort}
use Rattle.control_job.specs.declared.record.ControlJobRecord.{ControlJobRecord}

-- what a row wants besides the states
pub data ControlWant : Type 0 where
  nothing_more : ControlWant
  -- the job is the first QUEUED in the queue's order, and none is active
  first_queued_and_none_active : ControlWant
  -- its first process job's material is here, or none is left; it starts by hand, or by itself
  ready_by_hand : ControlWant
  ready_by_itself : ControlWant
  -- no process job is left in it
  none_left : ControlWant

-- what a row does besides the states
pub data ControlEffect : Type 0 where
  no_more : ControlEffect
  -- the job is the last in the queue's order
  goes_last : ControlEffect
  -- its process jobs belong to no control job
  frees_jobs : ControlEffect

-- a row of the table
abbrev pub ControlRow : Type 0
ControlRow = Row ControlJobRecord ControlWant ControlEffect

-- ---- control job
--
--    1 created   +--------+   2 first, none active    +----------+   3 ready, by hand   +-------------------+
--   -----------> | QUEUED | ------------------------> | SELECTED | -------------------> | WAITING FOR START |
--                +--------+ <------------------------ +----------+                      +-------------------+
--                     |              10 deselect           |                                   |
--                     | 9 cancel                           | 4 ready, by itself                | 5 start
--                     v                                    v                                   |
--               +-----------+      8 none is left     +-----------+ <--------------------------+
--               | COMPLETED | <---------------------- | EXECUTING |   6 pause, not ending    +--------+
--               +-----------+                         +-----------+ -----------------------> | PAUSED |
--                                                              ^                             +--------+
--                                                              +--------------------------------+
--                                                                           7 resume
--
--    11 stop: from SELECTED, WAITING FOR START, EXECUTING and PAUSED, not ending, to EXECUTING, ending by stop.
--    12 abort: from these, and from EXECUTING, ending by stop, to EXECUTING, ending by abort.

-- the numbers of the states (after SEMI E94)
abbrev pub state_number : ControlState → ℕ
state_number Queued = 0
state_number Selected = 1
state_number WaitingForStart = 2
state_number Executing = 3
state_number Paused = 4
state_number Completed = 5

-- the numbers of the endings
abbrev pub ending_number : Ending → ℕ
ending_number No = 0
ending_number ByStop = 1
ending_number ByAbort = 2

-- one number for both, by which states are told apart
abbrev pub states_number : ControlJobRecord → ℕ
states_number s = state_number s.state + 6 * ending_number s.ending

-- the states of a job in this state that isn't ending
abbrev pub not_ending : ControlState → ControlJobRecord
not_ending state = record { state = state; ending = No }

-- the states of a job that is EXECUTING, and ending by this
abbrev pub ending_by : Ending → ControlJobRecord
ending_by ending = record { state = Executing; ending = ending }

-- EXECUTING, ending or not
abbrev pub executing : List ControlJobRecord
executing = not_ending Executing ∷ ending_by ByStop ∷ ending_by ByAbort ∷ []

-- active and not ending
abbrev pub active_not_ending : List ControlJobRecord
active_not_ending = not_ending Selected ∷ not_ending WaitingForStart ∷ not_ending Executing ∷ not_ending Paused ∷ []

-- Table 15.
abbrev pub control_table : List ControlRow
control_table =
    -- created
    by_creation 1 nothing_more (not_ending Queued) goes_last
    ∷ by_itself 2 (not_ending Queued ∷ []) first_queued_and_none_active (not_ending Selected) no_more
    ∷ by_itself 3 (not_ending Selected ∷ []) ready_by_hand (not_ending WaitingForStart) no_more
    ∷ by_itself 4 (not_ending Selected ∷ []) ready_by_itself (not_ending Executing) no_more
    -- command 1, start
    ∷ by_input 5 (not_ending WaitingForStart ∷ []) nothing_more (not_ending Executing) no_more
    -- command 2, pause
    ∷ by_input 6 (not_ending Executing ∷ []) nothing_more (not_ending Paused) no_more
    -- command 3, resume
    ∷ by_input 7 (not_ending Paused ∷ []) nothing_more (not_ending Executing) no_more
    ∷ by_itself 8 executing none_left (not_ending Completed) no_more
    -- command 4, cancel
    ∷ by_input 9 (not_ending Queued ∷ []) nothing_more (not_ending Completed) frees_jobs
    -- command 5, deselect
    ∷ by_input 10 (not_ending Selected ∷ []) nothing_more (not_ending Queued) goes_last
    -- command 6, stop
    ∷ by_input 11 active_not_ending nothing_more (ending_by ByStop) no_more
    -- command 7, abort
    ∷ by_input 12 (ending_by ByStop ∷ active_not_ending) nothing_more (ending_by ByAbort) no_more
    ∷ []
