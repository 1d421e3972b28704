-- Posts that were answered, and the history that they make (this tool's profile, serving).
use Rattle.std.specs.Prelude.{◌≡◌, ℕ, Bool, true, ◌&&◌, is_some, List, [], ◌∷◌, map, Some}
use Rattle.tool_events.specs.declared.config.Config.{Config}
use Rattle.tool_events.specs.declared.entry.Entry.{Entry}
use Rattle.tool_events.specs.declared.event.Event.{Event}
use Rattle.tool_events.specs.declared.answer.Answer.{Answer}
use Rattle.gem_model.specs.State.{State, opening}
use Rattle.gem_model.specs.Step.{Outcome, step}
use Rattle.gem_model.specs.Run as run
use Rattle.history_parts.specs.CoreView.{CoreView}
use Rattle.shared_tool.specs.declared.posted.Posted.{Posted}

-- an event that a seat posted at a moment, with its answer
abbrev pub posted : ℕ → ℕ → Event → Answer → Posted
posted seat at event answer = record { seat = seat; at = record { 0 = at }; event = event; answer = answer }

-- an entry of a history, with what its step answered
abbrev pub posted_as : run.Recorded → Posted
posted_as r = record { seat = r.entry.seat; at = r.entry.at; event = r.entry.event; answer = r.outcome.answer }

-- the entries from a state on, each with its answer
abbrev pub posted_from : State → List Entry → List Posted
posted_from g history = map posted_as (run.recorded g history)

-- the entries of a history that began under this configuration, each with its answer
abbrev pub posted_in : Config → List Entry → List Posted
posted_in c history = posted_from (opening c) history

-- each entry from a state on has a step
abbrev pub is_run : State → List Entry → Bool
is_run g [] = true
is_run g (entry ∷ entries) = is_some (run.entry_step g entry) && is_run (run.entry_after g entry) entries

-- they without their answers
abbrev pub entry_of : Posted → Entry
entry_of p = record { seat = p.seat; at = p.at; event = p.event }

abbrev pub entries_of : List Posted → List Entry
entries_of posts = map entry_of posts

-- ---- the states that the turns lead through

-- a core in this state, of which the history isn't told
abbrev pub standing : Config → State → CoreView
standing c g = record { config = c; state = g; history = []; is_whole = true }

-- the first one
abbrev pub begun : Config → CoreView
begun c = standing c (opening c)

-- a post leads from one to the next where its step is so answered
abbrev pub Follows : CoreView → Posted → CoreView → Type 0
Follows before p after =
    (o : Outcome) × (step before.state p.at.0 p.event ≡ Some o) × (o.answer ≡ p.answer) × (after ≡ record before { state = o.after })
