-- Table 1, the states of communication with the host (after SEMI E30, communication state model; this tool's profile).
--
--      +----------+   1 enable    +------------+   3 S1F13 is sent    +----------+
--      | DISABLED | ------------> | WAIT DELAY | -------------------> | WAIT CRA |
--      +----------+               |            | <------------------- |          |
--           ^                     +------------+   5 not accepted,    +----------+
--           |                        |     ^       7 session ends          |
--           |         6 S1F13 of     |     |                               |  4 accepted,
--           |         the host       v     |  7 session ends               |  6 S1F13 of the host
--           |                     +---------------+                        |
--      2 disable, from each       | COMMUNICATING | <----------------------+
--      of the others              +---------------+
use Rattle.std.specs.Prelude.{ℕ, Bool, List, [], ◌∷◌}
use Rattle.gem_tables.specs.Table.{Row, by_input, by_itself, starts, after}
use Rattle.gem_states.specs.declared.communication.Comm.{Comm}
use Rattle.gem_states.specs.declared.communication.Comm.TheVariants.{Disabled, WaitDelay, WaitCra, Communicating}

-- the numbers of the states, as variables print them (after SEMI E30)
abbrev pub comm_number : Comm → ℕ
comm_number Disabled = 0
-- no S1F13 is open, and the next one is sent when the delay is over and the link is selected
comm_number (WaitDelay until) = 1
-- the tool's S1F13 is open
comm_number WaitCra = 2
-- host and tool talk
comm_number Communicating = 3

-- what a row wants besides its state
pub data CommWant : Type 0 where
  nothing_more : CommWant
  selected_and_delay_over : CommWant

-- what a row does besides its state
pub data CommEffect : Type 0 where
  no_more : CommEffect
  fails_every_transaction : CommEffect
  sends_s1f13 : CommEffect
  forgets_s1f13 : CommEffect

-- Table 1. A row that ends in WAIT DELAY lets the delay be over at this moment: at once but for row 5, which begins it.
abbrev pub communication_table : ℕ → List (Row Comm CommWant CommEffect)
communication_table until =
    -- enable
    by_input 1 (Disabled ∷ []) nothing_more (WaitDelay until) no_more
    -- disable
    ∷ by_input 2 (WaitDelay until ∷ WaitCra ∷ Communicating ∷ []) nothing_more Disabled fails_every_transaction
    ∷ by_itself 3 (WaitDelay until ∷ []) selected_and_delay_over WaitCra sends_s1f13
    -- S1F14 with COMMACK 0
    ∷ by_input 4 (WaitCra ∷ []) nothing_more Communicating no_more
    -- another S1F14, S1F0, or T3 is over
    ∷ by_input 5 (WaitCra ∷ []) nothing_more (WaitDelay until) no_more
    -- S1F13 of the host
    ∷ by_input 6 (WaitDelay until ∷ WaitCra ∷ []) nothing_more Communicating forgets_s1f13
    -- the session ends
    ∷ by_input 7 (WaitCra ∷ Communicating ∷ []) nothing_more (WaitDelay until) no_more
    ∷ []

-- the row of table 1 starts in the state
abbrev pub comm_starts : ℕ → Comm → Bool
comm_starts row comm = starts comm_number (communication_table 0) row comm

-- the state behind a row of table 1; a row that ends in WAIT DELAY lets the delay be over at this moment
abbrev pub comm_fired : ℕ → ℕ → Comm → Comm
comm_fired row until comm = after comm_number (communication_table until) row comm
