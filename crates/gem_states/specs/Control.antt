-- Table 2, the states of control (after SEMI E30, control state model; this tool's profile).
--
--                      +--------------------+
--                      | EQUIPMENT OFF-LINE | <-- 6 offline, from each of the others
--                      +--------------------+
--             1 online     |          ^    2 by itself, 3 the S1F1 fails
--                          v          |
--                      +--------------------+
--                      |  ATTEMPT ON-LINE   |
--                      +--------------------+
--        4 S1F2, switch local  |    |  5 S1F2, switch remote
--                              v    v
--          +---------------+   10 remote   +----------------+
--          | ON-LINE LOCAL | ------------> | ON-LINE REMOTE |
--          |               | <------------ |                |
--          +---------------+    11 local   +----------------+
--      9 S1F15   |     ^                      ^     |   9 S1F15
--                |     |                      |     |
--                |     | 7 S1F17,    8 S1F17, |     |
--                |     | switch      switch   |     |
--                v     | local       remote   |     v
--              +-----------------------------------------+
--              |              HOST OFF-LINE              |
--              +-----------------------------------------+
use Rattle.std.specs.Prelude.{ℕ, Bool, List, [], ◌∷◌}
use Rattle.gem_tables.specs.Table.{Row, by_input, by_itself, starts, after}
use Rattle.gem_states.specs.declared.control.Control.{Control}
use Rattle.gem_states.specs.declared.control.Control.TheVariants.{EquipmentOffline, Attempt, HostOffline, Local, Remote}

-- the numbers of the states, as variables print them (after SEMI E30)
abbrev pub control_number : Control → ℕ
control_number EquipmentOffline = 1
-- ATTEMPT ON-LINE: the tool asks the host by S1F1 whether it may go on-line
control_number Attempt = 2
-- the host has put the tool off-line
control_number HostOffline = 3
-- on-line, and the operator commands
control_number Local = 4
-- on-line, and the host commands
control_number Remote = 5

-- what a row wants besides its state
pub data ControlWant : Type 0 where
  nothing_more : ControlWant
  cannot_ask : ControlWant

-- what a row does besides its state
pub data ControlEffect : Type 0 where
  no_more : ControlEffect
  sends_s1f1_where_it_can : ControlEffect
  forgets_s1f1 : ControlEffect

-- Table 2.
abbrev pub control_table : List (Row Control ControlWant ControlEffect)
control_table =
    -- online
    by_input 1 (EquipmentOffline ∷ []) nothing_more Attempt sends_s1f1_where_it_can
    ∷ by_itself 2 (Attempt ∷ []) cannot_ask EquipmentOffline no_more
    -- the tool's S1F1 fails
    ∷ by_input 3 (Attempt ∷ []) nothing_more EquipmentOffline no_more
    -- S1F2, switch local
    ∷ by_input 4 (Attempt ∷ []) nothing_more Local no_more
    -- S1F2, switch remote
    ∷ by_input 5 (Attempt ∷ []) nothing_more Remote no_more
    -- offline
    ∷ by_input 6 (Attempt ∷ HostOffline ∷ Local ∷ Remote ∷ []) nothing_more EquipmentOffline forgets_s1f1
    -- S1F17, switch local
    ∷ by_input 7 (HostOffline ∷ []) nothing_more Local no_more
    -- S1F17, switch remote
    ∷ by_input 8 (HostOffline ∷ []) nothing_more Remote no_more
    -- S1F15
    ∷ by_input 9 (Local ∷ Remote ∷ []) nothing_more HostOffline no_more
    -- remote
    ∷ by_input 10 (Local ∷ []) nothing_more Remote no_more
    -- local, or GOLOCAL of the host
    ∷ by_input 11 (Remote ∷ []) nothing_more Local no_more
    ∷ []

-- the row of table 2 starts in the state
abbrev pub control_starts : ℕ → Control → Bool
control_starts row control = starts control_number control_table row control

-- the state behind a row of table 2; one that doesn't start in the state leaves it
abbrev pub control_fired : ℕ → Control → Control
control_fired row control = after control_number control_table row control
