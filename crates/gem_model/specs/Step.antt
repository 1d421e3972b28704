-- One event: what it is answered, whether it ended the session, and the state after it.
use Rattle.std.specs.Prelude.{ℕ, suc, Bool, true, false, if◌then◌else◌, List, [], ◌∷◌, Option, Some, None, option_map, unwrap_or, nat_lt, nat_le, not, ◌&&◌}
use Rattle.gem_tables.specs.declared.firing.Firing.{Firing}
use Rattle.hsms_frame.specs.declared.frame.Header.{Header}
use Rattle.hsms_frame.specs.declared.frame.Arrival.{Arrival}
use Rattle.hsms_frame.specs.Spelling.{message_bytes}
use Rattle.hsms_link.specs.declared.state.Phase.TheVariants.{NotSelected}
use Rattle.hsms_link.specs.declared.state.Ping.TheVariants.{Off}
use Rattle.hsms_link.specs.declared.table.LinkAct.{LinkAct}
use Rattle.hsms_link.specs.declared.table.LinkAct.TheVariants as link
use Rattle.hsms_link.specs.LinkTable.{link_act, link_after}
use Rattle.tool_events.specs.declared.event.Event.{Event}
use Rattle.tool_events.specs.declared.event.Event.TheVariants as event
use Rattle.tool_events.specs.declared.event.OperCmd.{OperCmd}
use Rattle.tool_events.specs.declared.event.OperCmd.TheVariants as oper
use Rattle.tool_events.specs.declared.answer.Answer.{Answer}
use Rattle.tool_events.specs.declared.answer.Answer.TheVariants as answer
use Rattle.tool_events.specs.declared.event.SessionCause.{SessionCause}
use Rattle.tool_events.specs.declared.event.SessionCause.TheVariants as cause
use Rattle.tool_events.specs.declared.event.SessionEnd.{SessionEnd}
use Rattle.std.specs.Result.{is_ok}
use Rattle.control_job.specs.Commands.{command_answer}
use Rattle.request_model.specs.Requests.{control_after}
use Rattle.gem_model.specs.JobMessages.{with_jobs_now}
use Rattle.gem_model.specs.State.{State, is_up, is_session_up, raised, with_frame}
use Rattle.event_reports.specs.Alarms.{is_set}
use Rattle.gem_model.specs.Machines.{row_starts}
use Rattle.gem_model.specs.Fire.{fires}
use Rattle.gem_model.specs.Noting.{clears_alarm}
use Rattle.gem_model.specs.Direct.{operator_rows}
use Rattle.tool_tasks.specs.declared.task.Command.{Command}
use Rattle.robot_moves.specs.Modules.{is_down, unfetched}
use Rattle.floor_model.specs.Floor.{fetched}
use Rattle.gem_model.specs.Signals.{lacks_port, module_of, module_alarm, signalled, is_ready_to_unload}
use Rattle.gem_model.specs.Verdict.{header_of}
use Rattle.gem_model.specs.Act.{data_done, session_ended}
use Rattle.gem_model.specs.Due.{Due, EndOfSession, dues, is_due, all_done}
use Rattle.gem_model.specs.Settle.{settled}

-- what an event does: its answer, the session that it ended, and the state after it
pub record Outcome : Type 0 where
  pub answer : Answer
  -- the session that ended in this step, if one did, and why
  pub ended : Option SessionEnd
  pub after : State

-- an answer, with no session ended
abbrev pub answered : Answer → State → Outcome
answered answer g = record { answer = answer; ended = None; after = g }

-- the session that is up, as one that ends for this cause
abbrev pub end_now : SessionCause → State → SessionEnd
end_now cause g = record { session = g.link.session; cause = cause }

-- the session that is up ends, for this cause
abbrev pub ends : Answer → SessionCause → State → Outcome
ends answer cause g = record { answer = answer; ended = Some (end_now cause g); after = session_ended g }

-- ---- messages of the host

-- the link goes on as its table says
abbrev pub linked : State → Header → State
linked g h = record g { link = link_after h g.moment g.link }

-- a message of the host, by what the link table says of its header, in the state whose link went on
abbrev pub hosted : State → Arrival → LinkAct → Outcome
hosted g arrival (link.Reply h) = answered answer.Done (with_frame (message_bytes h []) g)
hosted g arrival link.Data = answered answer.Done (data_done arrival g)
hosted g arrival link.Ended = ends answer.Ended cause.Separated g
hosted g arrival link.Nothing = answered answer.Done g

-- the oldest frame that waits is handed out
abbrev pub handed_out : State → List (List ℕ) → Option Outcome
handed_out g [] = None
handed_out g (frame ∷ frames) = Some (answered (answer.Frame frame) (record g { waiting = frames }))

-- ---- modules

-- the open command of the module of a number that was not fetched yet is handed out; it stays open (this tool's profile, moves)
abbrev pub command_out : State → ℕ → Option Command → Option Outcome
command_out g number None = None
command_out g number (Some command) = Some (answered (answer.Command command) (record g { floor = fetched number g.floor }))

-- ---- operators

-- the first of these rows starts at the present state
abbrev pub can_fire : State → List Firing → Bool
can_fire g [] = false
can_fire g (f ∷ fs) = row_starts g f

-- the alarms of modules, which the operator cannot clear: 10 plus the number of the module, which is at most 10
-- (this tool's profile, alarms)
abbrev pub is_module_alarm : ℕ → Bool
is_module_alarm alid = nat_lt 10 alid && nat_le alid 20

-- the operator can clear the alarm: it is set, and no module's
abbrev pub can_clear : ℕ → State → Bool
can_clear alid g = is_set alid g.alarms && not (is_module_alarm alid)

-- a command is accepted where its row can fire, or its change be made; the switch can always be set, and so can the access
-- mode of a port, also to the present one (this tool's profile, operators)
abbrev pub is_accepted : OperCmd → State → Bool
is_accepted oper.Local g = true
is_accepted oper.Remote g = true
is_accepted (oper.Access port auto) g = not (lacks_port port.0 g)
is_accepted (oper.Clear alid) g = can_clear alid g
is_accepted (oper.CtlJob job command) g = is_ok (command_answer job command g.floor.jobs.control.jobs)
is_accepted command g = can_fire g (operator_rows command g)

-- a module can come up: it is Down
abbrev pub can_come_up : ℕ → State → Bool
can_come_up number g = is_down (module_of number g)

-- what a command changes: `local` and `remote` set the switch, `clear` clears an alarm, and `up` that of its module; `cj 8` makes a control
-- job the head of the queue
abbrev pub switched : OperCmd → State → State
switched oper.Local g = record g { switch_local = true }
switched oper.Remote g = record g { switch_local = false }
switched (oper.Clear alid) g = if can_clear alid g then clears_alarm alid g else g
switched (oper.CtlJob job command) g = with_jobs_now (control_after job (command_answer job command g.floor.jobs.control.jobs) g.floor.jobs) g
switched (oper.Up number) g = if can_come_up number.0 g then clears_alarm (module_alarm number.0) g else g
switched _ g = g

-- `quit` ends the session, where one is up, and the run
abbrev pub quits : Bool → State → Outcome
quits true g = record (ends (answer.Oper true) cause.Quit g) { after = record (session_ended g) { quitting = true } }
quits false g = answered (answer.Oper true) (record g { quitting = true })

-- an operator's command
abbrev pub operated : OperCmd → State → Outcome
operated oper.Quit g = quits (is_up g) g
operated command g = answered (answer.Oper (is_accepted command g)) (fires (operator_rows command) (switched command g))

-- ---- the clock

-- the session that what is due ends, if it ends one
abbrev pub ended_by : List Due → State → Option SessionEnd
ended_by (EndOfSession cause ∷ dues) g = Some (end_now cause g)
ended_by _ g = None

-- a look at the clock, where the moment was raised from this one: it counts where something is due
abbrev pub ticked : ℕ → State → Option Outcome
ticked before g =
    if is_due before g then Some (record { answer = answer.Done; ended = ended_by (dues g) g; after = all_done (dues g) g })
    else None

-- ---- all events

-- What an event does before the tool settles, in a state whose moment is raised from the one before. There is none where
-- the event has to wait: a Take that finds no frame, a Fetch of a module that finds no command, a Tick that finds nothing due, a
-- Listen, and a Watch of a port that isn't READY TO UNLOAD. (This tool's profile, states of the link, what a header does, moves,
-- and time.)
abbrev pub acts : ℕ → State → Event → Option Outcome
acts before g event.LinkUp =
    if is_up g then Some (answered answer.Ended g)
    else Some (answered (answer.Session (suc g.link.session))
    (record g { link = record { session = suc g.link.session; phase = NotSelected (record { 0 = g.moment }); ping = Off } }))
acts before g (event.LinkDown session cause) =
    if is_session_up g session then Some (ends answer.Done cause g) else Some (answered answer.Ended g)
acts before g (event.Host session arrival) =
    if is_session_up g session then Some (hosted (linked g (header_of arrival)) arrival (link_act (header_of arrival) g.link))
    else Some (answered answer.Ended g)
acts before g (event.Take session) =
    if is_session_up g session then handed_out g g.waiting else Some (answered answer.Ended g)
acts before g (event.Oper command) = Some (operated command g)
acts before g (event.Signal signal) = Some (answered answer.Done (signalled signal g))
acts before g (event.Fetch m) = command_out g m.0 (unfetched (module_of m.0 g))
acts before g event.Tick = ticked before g
acts before g event.Listen = None
acts before g (event.Watch port) = if is_ready_to_unload port.0 g then Some (answered answer.Done g) else None

-- the tool settles
abbrev pub settles : Outcome → Outcome
settles o = record o { after = settled o.after }

-- The step of an event in a state whose moment is raised from the one before: it acts, and then the tool settles. Once the
-- operator ended the run every event is answered Ended, and changes nothing else (this tool's profile, operators).
abbrev pub step_from : ℕ → State → Event → Option Outcome
step_from before g event = if g.quitting then Some (answered answer.Ended g) else option_map settles (acts before g event)

-- the step of an event that is posted with a moment
abbrev pub step : State → ℕ → Event → Option Outcome
step g at event = step_from g.moment (raised g at) event

-- the state after an event; where there is no step, it stays
abbrev pub after : State → ℕ → Event → State
after g at event = unwrap_or (option_map (λ (o : Outcome). o.after) (step g at event)) g
