-- What the tool prints for a history (this tool's profile, output lines).
use Rattle.std.specs.Prelude.{ℕ, List, [], ◌++◌, Option, Some, None}
use Rattle.std.specs.List.{flat_map}
use Rattle.line_grammar.specs.declared.out_line.OutLine.{OutLine}
use Rattle.line_grammar.specs.declared.out_line.OutLine.TheVariants as out
use Rattle.line_grammar.specs.OutLines.{out_line_bytes}
use Rattle.gem_ids.specs.declared.numbers.ModuleId.{ModuleId}
use Rattle.tool_events.specs.declared.event.Event.{Event}
use Rattle.tool_events.specs.declared.event.Event.TheVariants as event
use Rattle.tool_tasks.specs.declared.task.Command.{Command}
use Rattle.tool_events.specs.declared.answer.Answer.{Answer}
use Rattle.tool_events.specs.declared.answer.Answer.TheVariants as answer
use Rattle.tool_events.specs.declared.entry.Entry.{Entry}
use Rattle.tool_events.specs.declared.event.SessionEnd.{SessionEnd}
use Rattle.gem_model.specs.State.{State}
use Rattle.gem_model.specs.Step.{Outcome}
use Rattle.gem_model.specs.Run.{Recorded, recorded}

-- the module that an event lets fetch, where it is such an event
abbrev pub fetches : Event → Option ModuleId
fetches (event.Fetch m) = Some m
fetches _ = None

-- the line of a command, by the module that fetched it
abbrev pub command_line : Option ModuleId → Command → Option OutLine
command_line None command = None
command_line (Some m) command = Some (out.Command m command)

-- the line of an answer to an event, where it has one (this tool's profile, output lines)
abbrev pub answer_line : Option ModuleId → Answer → Option OutLine
answer_line m answer.Done = None
answer_line m (answer.Session k) = Some (out.Up k)
answer_line m (answer.Frame frame) = Some (out.Frame frame)
answer_line m answer.Ended = None
answer_line m (answer.Oper accepted) = Some (out.Oper accepted)
answer_line m (answer.Command command) = command_line m command

-- the line of a session that ended, where one did
abbrev pub end_line : Option SessionEnd → Option OutLine
end_line None = None
end_line (Some e) = Some (out.Ended e.session e.cause)

-- a line, where there is one
abbrev pub line_bytes : Option OutLine → List ℕ
line_bytes None = []
line_bytes (Some line) = out_line_bytes line

-- the lines of a step of an event: its answer's, and then that of a session that ended in it
abbrev pub outcome_lines : Event → Outcome → List ℕ
outcome_lines e o = line_bytes (answer_line (fetches e) o.answer) ++ line_bytes (end_line o.ended)

-- the lines of an entry
abbrev pub entry_lines : Recorded → List ℕ
entry_lines r = outcome_lines r.entry.event r.outcome

-- the lines of a history, entry by entry
abbrev pub printed : State → List Entry → List ℕ
printed g entries = flat_map entry_lines (recorded g entries)
