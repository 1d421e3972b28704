-- The sessions of a history: how many came, how each ended, and what went out in it (this tool's profile, sessions).
use Rattle.std.specs.Prelude.{ℕ, ◌==◌, if◌then◌else◌, List, [], Option, option_map}
use Rattle.std.specs.List.{find, flat_map}
use Rattle.std.specs.Option.{option_to_list}
use Rattle.tool_events.specs.declared.entry.Entry.{Entry}
use Rattle.tool_events.specs.declared.event.Event.{Event}
use Rattle.tool_events.specs.declared.event.Event.TheVariants as event
use Rattle.tool_events.specs.declared.answer.Answer.{Answer}
use Rattle.tool_events.specs.declared.answer.Answer.TheVariants as answer
use Rattle.tool_events.specs.declared.event.SessionCause.{SessionCause}
use Rattle.tool_events.specs.declared.event.SessionEnd.{SessionEnd}
use Rattle.gem_model.specs.State.{State}
use Rattle.gem_model.specs.Run.{Recorded, recorded, after_all}

-- how many sessions came; they are numbered from 1 (this tool's profile, states of the link)
abbrev pub session_count : State → List Entry → ℕ
session_count g entries = (after_all g entries).link.session

-- the session that an entry ended, if it ended one
abbrev pub ended_in : Recorded → List SessionEnd
ended_in r = option_to_list r.outcome.ended

-- the sessions that ended, in the order of the entries that ended them
abbrev pub ends_of : State → List Entry → List SessionEnd
ends_of g entries = flat_map ended_in (recorded g entries)

-- the cause at the entry where this session ended; there is none for a session that is up or never came (this tool's
-- profile, sessions)
abbrev pub session_end : State → List Entry → ℕ → Option SessionCause
session_end g entries session =
    option_map (λ (e : SessionEnd). e.cause) (find (λ (e : SessionEnd). e.session == session) (ends_of g entries))

-- the frame that the writer of this session took, where an event was answered so (this tool's profile, sessions)
abbrev pub frame_taken : Event → Answer → ℕ → List ℕ
frame_taken (event.Take session) (answer.Frame frame) k = if session == k then frame else []
frame_taken _ _ k = []

-- the same of an entry
abbrev pub frame_in : ℕ → Recorded → List ℕ
frame_in k r = frame_taken r.entry.event r.outcome.answer k

-- what went out in this session: the frames that its writer took, joined (this tool's profile, sessions)
abbrev pub session_out : State → List Entry → ℕ → List ℕ
session_out g entries k = flat_map (frame_in k) (recorded g entries)
