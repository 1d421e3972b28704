-- In which state a link is (SEMI E37, connection states).
use Rattle.std.specs.Prelude.{ℕ, ◌==◌, Bool, true, false}
use Rattle.hsms_link.specs.declared.state.Phase.{Phase}
use Rattle.hsms_link.specs.declared.state.Phase.TheVariants.{Down, NotSelected, Selected}
use Rattle.hsms_link.specs.declared.state.Ping.{Ping}
use Rattle.hsms_link.specs.declared.state.Ping.TheVariants.{Off, Quiet, Asked}

-- the phase of a link that is selected
abbrev pub is_selected : Phase → Bool
is_selected Down = false
is_selected (NotSelected since) = false
is_selected Selected = true

-- the phase of a link that is there
abbrev pub is_up : Phase → Bool
is_up Down = false
is_up (NotSelected since) = true
is_up Selected = true

-- a linktest of the tool is open
abbrev pub is_open : Ping → Bool
is_open Off = false
is_open (Quiet since) = false
is_open (Asked system since) = true

-- a linktest of the tool with these system bytes is open
abbrev pub is_asked : ℕ → Ping → Bool
is_asked n Off = false
is_asked n (Quiet since) = false
is_asked n (Asked system since) = system == n
