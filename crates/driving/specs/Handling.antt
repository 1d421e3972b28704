-- What becomes of an answer.
use Rattle.std.specs.Prelude.{Option, Result}
use Rattle.gem_ids.specs.declared.numbers.ModuleId.{ModuleId}
use Rattle.tool_events.specs.declared.answer.Answer.{Answer}
use Rattle.tool_events.specs.declared.event.SessionEnd.{SessionEnd}
use Rattle.driving.specs.declared.handler.Unhandled.{Unhandled}

-- A relation that says what handling does: to the module that the event lets fetch, where it is such an event; to its answer; and to the
-- session that ended with it, if one did, there are where the answers go before and after it, and how it ended.
abbrev pub Handling : Type 0 → Type 1
Handling O = Option ModuleId → Answer → Option SessionEnd → O → O → Result (Unit {0}) Unhandled → Type 0
