-- Work that is left for a substrate, and what the modules are at (after SEMI E40; this tool's profile, moves).
use Rattle.std.specs.Prelude.{◌≡◌, ℕ, Bool, not, ◌&&◌, ◌||◌}
use Rattle.floor_moves.specs.Floor.{Command, busy, Floor, is_outside, is_finished}

-- its job is PROCESSING, STOPPING or ABORTING
abbrev pub is_at_work : ℕ → Floor → Bool
is_at_work n g = g.jobs.may_start n || (g.jobs.is_stopping n || g.jobs.is_aborting n)

-- work is left for the substrate: it is outside its slot, or it is unfinished and its job is PROCESSING, STOPPING or ABORTING
abbrev pub is_work_left : ℕ → Floor → Bool
is_work_left n g = is_outside (g.place_of n) || (not (is_finished (g.processing n)) && is_at_work n g)

-- a command is open
abbrev pub IsOpen : Floor → Type 0
IsOpen g = (m : ℕ) × (c : Command) × (g.equipment m ≡ busy c)
