-- The number that falls at each automatic firing, which is why settling ends.
use Rattle.std.specs.Prelude.{ℕ, ◌+◌, ◌*◌, Bool, true, false, if◌then◌else◌}
use Rattle.gem_states.specs.declared.communication.Comm.{Comm}
use Rattle.gem_states.specs.declared.communication.Comm.TheVariants as comm
use Rattle.note_line.specs.Left.{left as left_line}
use Rattle.floor_model.specs.Left.{floor_left}
use Rattle.gem_model.specs.State.{State}
use Rattle.gem_model.specs.Wants.{is_attempt}

-- WAIT DELAY
abbrev pub is_wait_delay : Comm → Bool
is_wait_delay (comm.WaitDelay until) = true
is_wait_delay _ = false

-- one for a test that holds
abbrev pub one_if : Bool → ℕ
one_if b = if b then 1 else 0

-- what is left to fire by itself: WAIT DELAY, ATTEMPT ON-LINE and what is left of the ports, the carriers and the modules count 7 each, which is
-- more than the note weighs that may tell of their end, and then what is left in the line of notes, the states of the spool
-- included
abbrev pub left : State → ℕ
left g = 7 * (one_if (is_wait_delay g.comm) + (one_if (is_attempt g.control) + floor_left g.floor)) + left_line g.line
