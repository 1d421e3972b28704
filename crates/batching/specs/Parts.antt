-- What a batch keeps of the answers, and which inputs it puts in.
use Rattle.std.specs.Prelude.{◌≡◌, ⊤, List, [], ◌++◌, Ok, Err}
use Rattle.std.specs.Option.{option_to_list}
use Rattle.tool_events.specs.declared.answer.Answer.{Answer}
use Rattle.tool_events.specs.declared.answer.Answer.TheVariants as answer
use Rattle.tool_events.specs.declared.event.Event.{Event}
use Rattle.tool_events.specs.declared.event.Event.TheVariants as event
use Rattle.driving.specs.declared.handler.Unhandled.TheVariants as unhandled
use Rattle.driving.specs.Handling.{Handling}
use Rattle.batch_model.specs.declared.primary.Primary.{Primary}
use Rattle.batch_model.specs.Host.{primary_in}

-- the message that is answered, of a frame that was taken
abbrev pub primaries_of : Answer → List Primary
primaries_of (answer.Frame frame) = option_to_list (primary_in frame)
primaries_of _ = []

-- an answer is handled by keeping its message behind the others (this tool's profile, batch); nothing but want of memory hinders it
abbrev pub keeps : {O : Type 0} → (O → List Primary) → Handling O
keeps see m answer ended asked asked' (Ok done) = see asked' ≡ see asked ++ primaries_of answer
keeps see m answer ended asked asked' (Err why) = why ≡ unhandled.NoMemory

-- an input of a batch, none of which ever has to wait: the link comes up, the host tells a message, or the equipment signals
abbrev pub IsInput : Event → Type 0
IsInput event.LinkUp = ⊤
IsInput (event.Host session arrival) = ⊤
IsInput (event.Signal signal) = ⊤
IsInput _ = ⊥
