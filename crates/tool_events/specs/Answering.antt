-- Which answers an event may have, and which events may have to wait.
use Rattle.std.specs.Prelude.{Bool, true, false}
use Rattle.tool_events.specs.declared.event.Event.{Event}
use Rattle.tool_events.specs.declared.event.Event.TheVariants as event
use Rattle.tool_events.specs.declared.event.OperCmd.TheVariants as oper
use Rattle.tool_events.specs.declared.answer.Answer.{Answer}
use Rattle.tool_events.specs.declared.answer.Answer.TheVariants as answer

-- The answers that an event may have: each may have Ended, and one more where a line says so. That the run ends is always accepted
-- (this tool's profile, events and answers, and operator words).
abbrev pub may_be_answered : Event → Answer → Bool
may_be_answered _ answer.Ended = true
may_be_answered event.LinkUp (answer.Session session) = true
may_be_answered (event.LinkDown session cause) answer.Done = true
may_be_answered (event.Host session arrival) answer.Done = true
may_be_answered (event.Take session) (answer.Frame bytes) = true
may_be_answered (event.Oper oper.Quit) (answer.Oper accepted) = accepted
may_be_answered (event.Oper command) (answer.Oper accepted) = true
may_be_answered (event.Signal signal) answer.Done = true
may_be_answered (event.Fetch module_id) (answer.Command command) = true
may_be_answered event.Tick answer.Done = true
may_be_answered (event.Watch port) answer.Done = true
may_be_answered _ _ = false

-- the events that may have to wait (this tool's profile, events and answers)
abbrev pub may_wait : Event → Bool
may_wait (event.Take session) = true
may_wait (event.Fetch module_id) = true
may_wait event.Tick = true
may_wait event.Listen = true
may_wait (event.Watch port) = true
may_wait _ = false
