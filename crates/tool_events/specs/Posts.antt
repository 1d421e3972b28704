-- What a desk was asked and answered.
use Rattle.std.specs.Prelude.{◌≡◌, ℕ, ◌-◌, ◌+◌, ◌^◌, min, Bool, true, false, if◌then◌else◌, Result, Ok, Err}
use Rattle.tool_events.specs.declared.event.Event.{Event}
use Rattle.tool_events.specs.declared.answer.Answer.{Answer}
use Rattle.tool_events.specs.declared.answer.PostFault.{PostFault}
use Rattle.tool_events.specs.declared.answer.PostFault.TheVariants as fault
use Rattle.tool_events.specs.Sizes.{event_bytes}

-- the post was answered Full
abbrev pub is_full : Result Answer PostFault → Bool
is_full (Ok answer) = false
is_full (Err fault.Again) = false
is_full (Err (fault.Full entries)) = true
is_full (Err fault.NoMemory) = false

-- the post was answered NoMemory
abbrev pub is_want : Result Answer PostFault → Bool
is_want (Ok answer) = false
is_want (Err fault.Again) = false
is_want (Err (fault.Full entries)) = false
is_want (Err fault.NoMemory) = true

-- a count rises by one where the test holds, and stands still at the greatest number of 64 bits; else it stays (this
-- tool's profile, limits)
abbrev pub Rises : Bool → ℕ → ℕ → Type 0
Rises b before after = after ≡ (if b then min (before + 1) (2 ^ 64 - 1) else before)

-- the bytes of the last event that was answered Full
abbrev pub last_bytes : Result Answer PostFault → Event → ℕ → ℕ
last_bytes result event before = if is_full result then event_bytes event else before
