-- The table of moves (this tool's profile, table 16). What a row wants and does besides the state of its module is told here by
-- a word, and is said of modules and substrates in Moves.antt and in the crates above. Modules are ordered by their numbers: 1
-- is the robot, 2 the aligner, and 2 + c chamber c.
use Rattle.std.specs.Prelude.{ℕ, List, [], ◌∷◌}
use Rattle.gem_tables.specs.Table.{Row, by_input, by_itself}
use Rattle.robot_moves.specs.declared.module.ModuleState.{ModuleState}
use Rattle.robot_moves.specs.declared.module.ModuleState.TheVariants.{Idle, Busy, Down}

-- what a row wants besides the state of its module
pub data MoveWant : Type 0 where
  nothing_more : MoveWant
  -- it is the robot, and its arm holds a substrate with a free target
  target_free : MoveWant
  -- it is the robot, its arm is empty, and a pick is useful
  pick_useful : MoveWant
  -- it is the aligner, and holds an unfinished substrate that isn't aligned
  align_wanted : MoveWant
  -- it is a chamber, holds an unfinished substrate, and is in the next step of that
  process_wanted : MoveWant
  -- its open command is a Pick or a Place, an Align, or a Process
  move_open : MoveWant
  align_open : MoveWant
  process_open : MoveWant

-- what a row does besides the state of its module
pub data MoveEffect : Type 0 where
  no_more : MoveEffect
  -- the command is issued, under the next number
  issues_place : MoveEffect
  issues_pick : MoveEffect
  issues_align : MoveEffect
  issues_process : MoveEffect
  -- the substrate moves from the named start to the named end
  moves : MoveEffect
  -- the substrate is aligned
  aligns : MoveEffect
  -- where the step isn't the last and the job isn't ABORTING the step is done
  steps : MoveEffect
  -- the open command is closed and nothing moves; the alarm of the module is set
  closes : MoveEffect
  -- the alarm of the module is cleared
  clears_alarm : MoveEffect

-- a row of the table of moves
abbrev pub MoveRow : Type 0
MoveRow = Row ModuleState MoveWant MoveEffect

-- ---- a module
--
--    +------+   1 to 4 by itself    +------+
--    | IDLE | --------------------> | BUSY |
--    +------+ <-------------------- +------+
--      ^  |     5, 6, 7 Done           |
--      |  |                            |
--      |  | 9 Down                     | 8 Failed, 9 Down
--      |  v                            |
--    +------+                          |
--    | DOWN | <------------------------+
--    +------+
--      10 `up`: from DOWN to IDLE

-- the numbers of the states
abbrev pub state_number : ModuleState → ℕ
state_number Idle = 0
state_number Busy = 1
state_number Down = 2

-- Table 16.
abbrev pub move_table : List MoveRow
move_table =
    by_itself 1 (Idle ∷ []) target_free Busy issues_place
    ∷ by_itself 2 (Idle ∷ []) pick_useful Busy issues_pick
    ∷ by_itself 3 (Idle ∷ []) align_wanted Busy issues_align
    ∷ by_itself 4 (Idle ∷ []) process_wanted Busy issues_process
    -- Done of Pick or Place
    ∷ by_input 5 (Busy ∷ []) move_open Idle moves
    -- Done of Align
    ∷ by_input 6 (Busy ∷ []) align_open Idle aligns
    -- Done of Process
    ∷ by_input 7 (Busy ∷ []) process_open Idle steps
    -- Failed
    ∷ by_input 8 (Busy ∷ []) nothing_more Down closes
    -- the signal Down
    ∷ by_input 9 (Idle ∷ Busy ∷ []) nothing_more Down closes
    -- the operator's `up`
    ∷ by_input 10 (Down ∷ []) nothing_more Idle clears_alarm
    ∷ []
