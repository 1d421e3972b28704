-- A count for each session, and what is added to the count of bytes that went out.
use Rattle.std.specs.Prelude.{ℕ, ◌-◌, nat_lt, if◌then◌else◌, List, get_or, Option, Some, None}
use Rattle.tool_events.specs.declared.event.Event.{Event}
use Rattle.tool_events.specs.declared.event.Event.TheVariants as event
use Rattle.tool_events.specs.declared.answer.Answer.{Answer}
use Rattle.tool_events.specs.declared.answer.Answer.TheVariants as answer

-- the count of a session; they are numbered from 1, and one that has none counts 0
abbrev pub count_of : List ℕ → ℕ → ℕ
count_of counts session = if nat_lt 0 session then get_or counts (session - 1) 0 else 0

-- the session whose writer took a frame, where an event was answered so
abbrev pub taker : Event → Answer → Option ℕ
taker (event.Take session) (answer.Frame frame) = Some session
taker _ _ = None
