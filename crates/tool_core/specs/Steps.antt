-- What an event did, as the step of the tables.
use Rattle.std.specs.Prelude.{◌≡◌, ℕ, Some}
use Rattle.tool_events.specs.declared.event.Event.{Event}
use Rattle.core_shop.specs.declared.reaction.Reaction.{Reaction}
use Rattle.core_shop.specs.Reactions.{outcome_of}
use Rattle.gem_model.specs.State.{State}
use Rattle.gem_model.specs.Step.{step, step_from}

-- in a state whose moment was raised from this one, the event's step is this reaction, and leads to this state
abbrev pub StepsFrom : ℕ → State → Event → Reaction → State → Type 0
StepsFrom before old event reaction new = step_from before old event ≡ Some (outcome_of reaction new)

-- the same for an event that is posted with a moment
abbrev pub Steps : State → ℕ → Event → Reaction → State → Type 0
Steps old at event reaction new = step old at event ≡ Some (outcome_of reaction new)
