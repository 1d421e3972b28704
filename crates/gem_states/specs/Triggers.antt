-- Which rows a trigger fires (after SEMI E30; this tool's profile, direct rows).
use Rattle.std.specs.Prelude.{ℕ, Bool, if◌then◌else◌, List, [], ◌∷◌}
use Rattle.gem_states.specs.declared.communication.CommTrigger.{CommTrigger}
use Rattle.gem_states.specs.declared.communication.CommTrigger.TheVariants.{Enable, Disable, Accepted, Refused, HostS1F13, SessionEnd}
use Rattle.gem_states.specs.declared.control.ControlTrigger.{ControlTrigger}
use Rattle.gem_states.specs.declared.control.ControlTrigger.TheVariants as trigger

-- the rows of table 1 that a trigger fires
abbrev pub comm_rows : CommTrigger → List ℕ
comm_rows Enable = 1 ∷ []
comm_rows Disable = 2 ∷ []
comm_rows Accepted = 4 ∷ []
comm_rows Refused = 5 ∷ []
comm_rows HostS1F13 = 6 ∷ []
comm_rows SessionEnd = 7 ∷ []

-- the rows of table 2 that a trigger fires, where the switch is local or remote
abbrev pub control_rows : ControlTrigger → Bool → List ℕ
control_rows trigger.Online switch_local = 1 ∷ []
control_rows trigger.Failed switch_local = 3 ∷ []
control_rows trigger.HostS1F2 switch_local = if switch_local then 4 ∷ [] else 5 ∷ []
control_rows trigger.Offline switch_local = 6 ∷ []
control_rows trigger.HostS1F17 switch_local = if switch_local then 7 ∷ [] else 8 ∷ []
control_rows trigger.HostS1F15 switch_local = 9 ∷ []
control_rows trigger.Remote switch_local = 10 ∷ []
control_rows trigger.Local switch_local = 11 ∷ []
