-- The deadlines of a link (SEMI E37, T6 and T7; this tool's linktest period; this tool's profile, time).
use Rattle.std.specs.Prelude.{ℕ, ◌+◌, Bool, ◌&&◌, ◌==◌, nat_le, if◌then◌else◌, Option, Some, None, option_and_then}
use Rattle.gem_ids.specs.Moments.{last_moment}
use Rattle.hsms_link.specs.declared.state.LinkState.{LinkState}
use Rattle.hsms_link.specs.declared.state.Phase.{Phase}
use Rattle.hsms_link.specs.declared.state.Phase.TheVariants.{Down, NotSelected, Selected}
use Rattle.hsms_link.specs.declared.state.Ping.{Ping}
use Rattle.hsms_link.specs.declared.state.Ping.TheVariants.{Off, Quiet, Asked}
use Rattle.hsms_link.specs.declared.deadlines.LinkTimes.{LinkTimes}
use Rattle.hsms_link.specs.declared.deadlines.LinkDue.{LinkDue}
use Rattle.hsms_link.specs.declared.deadlines.LinkDue.TheVariants.{T7, T6, AskLinktest}

-- what is due, and when
pub record Deadline : Type 0 where
  pub due : LinkDue
  pub at : ℕ

-- the deadline that runs: the plain sum of the moment from which it runs and its time
abbrev pub deadline_of : LinkTimes → Phase → Ping → Option Deadline
-- T7 from the moment at which the link came up, while it isn't selected
deadline_of times (NotSelected since) ping = Some (record { due = T7; at = since.0 + times.t7 })
-- T6 from the tool's linktest request, while that linktest is open
deadline_of times Selected (Asked system since) = Some (record { due = T6; at = since.0 + times.t6 })
-- the linktest period from the selection or the closing of the last linktest, while none is open; 0 means never
deadline_of times Selected (Quiet since) =
    if times.period == 0 then None else Some (record { due = AskLinktest; at = since.0 + times.period })
deadline_of times Selected Off = None
deadline_of times Down ping = None

-- a deadline comes at its moment, and one past the last moment never
abbrev pub has_come : ℕ → ℕ → Bool
has_come deadline at = nat_le deadline at && nat_le deadline last_moment

-- what is due at a moment
abbrev pub due_at : LinkTimes → LinkState → ℕ → Option LinkDue
due_at times link at =
    option_and_then (λ deadline. if has_come deadline.at at then Some deadline.due else None) (deadline_of times link.phase link.ping)
