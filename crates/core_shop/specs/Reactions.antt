-- What an event did, as the outcome of the tables.
use Rattle.std.specs.Prelude.{◌≡◌, ℕ, Some, None}
use Rattle.tool_events.specs.declared.answer.Answer.TheVariants.{Done}
use Rattle.tool_events.specs.declared.event.Event.{Event}
use Rattle.tool_events.specs.declared.event.Event.TheVariants as event
use Rattle.core_shop.specs.declared.reaction.Reaction.{Reaction}
use Rattle.gem_model.specs.State.{State}
use Rattle.gem_model.specs.Step.{Outcome, acts}

-- the event was done, and no session ended
abbrev pub done : Reaction
done = record { answer = Done; ended = None }

-- what a reaction is, with the state that it leads to
abbrev pub outcome_of : Reaction → State → Outcome
outcome_of reaction new = record { answer = reaction.answer; ended = reaction.ended; after = new }

-- in a state whose moment was raised from this one, the event acts so, and leads to this state before the tool settles
abbrev pub Acts : ℕ → State → Event → Reaction → State → Type 0
Acts before old e reaction new = acts before old e ≡ Some (outcome_of reaction new)

-- the event is one of the link, of the modules that fetch, or of the clock
abbrev pub IsLinkEvent : Event → Type 0
IsLinkEvent event.LinkUp = Unit {0}
IsLinkEvent (event.LinkDown session cause) = Unit {0}
IsLinkEvent (event.Host session arrival) = ⊥
IsLinkEvent (event.Take session) = Unit {0}
IsLinkEvent (event.Oper command) = ⊥
IsLinkEvent (event.Signal told) = ⊥
IsLinkEvent (event.Fetch m) = Unit {0}
IsLinkEvent event.Tick = Unit {0}
IsLinkEvent event.Listen = ⊥
IsLinkEvent (event.Watch port) = ⊥
