-- What a row of tables 1 and 2 wants besides its state (this tool's profile, tables 1 and 2).
use Rattle.std.specs.Prelude.{ℕ, Bool, true, false, not, ◌&&◌, nat_le}
use Rattle.gem_states.specs.declared.communication.Comm.{Comm}
use Rattle.gem_states.specs.declared.communication.Comm.TheVariants as comm
use Rattle.gem_states.specs.declared.control.Control.{Control}
use Rattle.gem_states.specs.declared.control.Control.TheVariants as control
use Rattle.gem_states.specs.Communication.{CommWant}
use Rattle.gem_states.specs.Communication as comm_table
use Rattle.gem_states.specs.Control.{ControlWant}
use Rattle.gem_states.specs.Control as control_table_words
use Rattle.gem_model.specs.State.{State, is_selected, can_ask}

-- WAIT DELAY, whose delay is over at a moment
abbrev pub delay_is_over : ℕ → Comm → Bool
delay_is_over at (comm.WaitDelay until) = nat_le until at
delay_is_over at _ = false

-- ATTEMPT ON-LINE
abbrev pub is_attempt : Control → Bool
is_attempt control.Attempt = true
is_attempt _ = false

-- what a row of table 1 wants besides its state
abbrev pub comm_finds : State → CommWant → Bool
comm_finds g comm_table.nothing_more = true
comm_finds g comm_table.selected_and_delay_over = delay_is_over g.moment g.comm && is_selected g

-- what a row of table 2 wants besides its state
abbrev pub control_finds : State → ControlWant → Bool
control_finds g control_table_words.nothing_more = true
control_finds g control_table_words.cannot_ask = not (can_ask g)
