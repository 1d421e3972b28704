-- What the host asks of process jobs and control jobs, and what is done (SEMI E40, S16F5, S16F11, S16F17, S16F19 and S16F21; SEMI E94,
-- S14F9 and S16F27; this tool's profile, messages). What is asked, and why it isn't done, is in request_model. All is by the jobs before the
-- message.
use Rattle.std.specs.Prelude.{ℕ, not, if◌then◌else◌, List, [], ◌∷◌, map, Option, Some, None, is_some}
use Rattle.gem_tables.specs.declared.firing.Firing.{Firing}
use Rattle.item_model.specs.Data.{Data}
use Rattle.tool_tasks.specs.declared.words.JobWord.{JobWord}
use Rattle.process_job.specs.Jobs.{space}
use Rattle.process_job.specs.Tables.{job_number}
use Rattle.process_job.specs.declared.job.JobSpec.{JobSpec}
use Rattle.process_job.specs.declared.job.ProcessJob.{ProcessJob}
use Rattle.control_job.specs.Commands.{command_answer}
use Rattle.tool_jobs.specs.Jobs.{Jobs}
use Rattle.tool_jobs.specs.Creating.{with_process, with_control}
use Rattle.floor_model.specs.Floor.{with_jobs}
use Rattle.message_model.specs.declared.shop_reply.ErrorPart.{ErrorPart}
use Rattle.message_model.specs.declared.shop_reply.JobAcknowledge.{JobAcknowledge}
use Rattle.message_model.specs.declared.shop_reply.JobState.{JobState}
use Rattle.message_model.specs.declared.shop_reply.ObjectAcknowledge.{ObjectAcknowledge}
use Rattle.message_model.specs.declared.shop_reply.ShopReply.{ShopReply}
use Rattle.message_model.specs.declared.shop_reply.ShopReply.TheVariants as reply
use Rattle.request_model.specs.declared.error.JobError.{JobError}
use Rattle.request_model.specs.declared.control.ControlRequest.{ControlRequest}
use Rattle.request_model.specs.Errors.{error_code, error_text}
use Rattle.request_model.specs.Requests.{command_error, command_rows, process_error, process_rows, request_error, control_rows, cancel_error, cancelled, cancel_rows, control_command_error, control_after, control_command_rows}
use Rattle.gem_model.specs.State.{State}
use Rattle.gem_model.specs.Remote.{is_local}
use Rattle.gem_model.specs.HostMessages.{ShopTold, Done}

-- ---- why something isn't done

-- the errors of a reply: that one, where there is one
abbrev pub errors_of : Option JobError → List ErrorPart
errors_of None = []
errors_of (Some e) = record { code = error_code e; text = error_text e } ∷ []

-- whether it is done, and else why not
abbrev pub acknowledged : Option JobError → JobAcknowledge
acknowledged e = record { ok = not (is_some e); errors = errors_of e }

-- OBJACK: 0 where the object is created, else 1 (SEMI E5, S14F10)
abbrev pub object_acknowledged : Option JobError → ObjectAcknowledge
object_acknowledged e = record { objack = if is_some e then 1 else 0; errors = errors_of e }

-- ---- what is done

-- the jobs of the tool
abbrev pub jobs_of : State → Jobs
jobs_of g = g.floor.jobs

-- the jobs are these now
abbrev pub with_jobs_now : Jobs → State → State
with_jobs_now w g = record g { floor = with_jobs w g.floor }

-- what is asked of jobs is answered; where no error stands against it the jobs are these then, and rows fire
abbrev pub asked_of_jobs : State → ShopReply → Option JobError → Jobs → List Firing → Done
asked_of_jobs g r (Some e) w rows = record { reply = ShopTold r; after = g; rows = [] }
asked_of_jobs g r None w rows = record { reply = ShopTold r; after = with_jobs_now w g; rows = rows }

-- the jobs are listed, and nothing is done
abbrev pub tells_of_jobs : State → ShopReply → Done
tells_of_jobs g r = record { reply = ShopTold r; after = g; rows = [] }

-- a process job as S16F20 lists it
abbrev pub listed_job : ProcessJob → JobState
listed_job j = record { job = j.id; state = job_number j.states.state }

-- the rows of a command on a process job, where the command is known
abbrev pub rows_of_command : List ℕ → Option JobWord → Jobs → List Firing
rows_of_command job None w = []
rows_of_command job (Some word) w = command_rows job word w

-- those that S16F17 cancels; none where it refuses
abbrev pub cancelled_where : Option JobError → List (List ℕ) → Jobs → List (List ℕ)
cancelled_where (Some e) names w = []
cancelled_where None names w = cancelled names w

-- a process job is created
abbrev pub process_done : State → JobSpec → Data → Done
process_done g spec events =
    let e = process_error (is_local g.control) spec events (jobs_of g) in
    asked_of_jobs g (reply.S16F12 spec.id (acknowledged e)) e (with_process spec (jobs_of g)) (process_rows (jobs_of g))

-- a control job is created
abbrev pub control_done : State → List ℕ → ControlRequest → Done
control_done g type r =
    let e = request_error (is_local g.control) type r (jobs_of g) in
    asked_of_jobs g (reply.S14F10 r.name (object_acknowledged e)) e (with_control r.name r.jobs r.auto (jobs_of g)) (control_rows (jobs_of g))

-- a command on a process job
abbrev pub command_done : State → List ℕ → Option JobWord → Done
command_done g job word =
    let e = command_error (is_local g.control) job word (jobs_of g) in
    asked_of_jobs g (reply.S16F6 job (acknowledged e)) e (jobs_of g) (rows_of_command job word (jobs_of g))

-- process jobs are cancelled
abbrev pub cancel_done : State → List (List ℕ) → Done
cancel_done g names =
    let e = cancel_error (is_local g.control) names (jobs_of g) in
    asked_of_jobs g (reply.S16F18 (cancelled_where e names (jobs_of g)) (acknowledged e)) e (jobs_of g) (cancel_rows (cancelled names (jobs_of g)) (jobs_of g))

-- a command on a control job
abbrev pub control_command_done : State → List ℕ → ℕ → Done
control_command_done g job cmd =
    let e = control_command_error (is_local g.control) job cmd (jobs_of g) in
    let a = command_answer job cmd (jobs_of g).control.jobs in
    asked_of_jobs g (reply.S16F28 (not (is_some e)) (errors_of e)) e (control_after job a (jobs_of g)) (control_command_rows job a (jobs_of g))

-- the process jobs are listed, by creation
abbrev pub list_done : State → Done
list_done g = tells_of_jobs g (reply.S16F20 (map listed_job (jobs_of g).process.kept))

-- how many more process jobs can be created
abbrev pub space_done : State → Done
space_done g = tells_of_jobs g (reply.S16F22 (space (jobs_of g).process))
