-- What the host asks of process jobs and control jobs, and why it isn't done (SEMI E40, S16F5, S16F11 and S16F17; SEMI E94, S14F9 and
-- S16F27; this tool's profile, messages). What is told of jobs is by the jobs before the message. In ON-LINE LOCAL nothing is done, but
-- that an unknown command is told first.
use Rattle.std.specs.Prelude.{ℕ, ◌+◌, nat_le, Bool, true, false, not, ◌&&◌, ◌||◌, if◌then◌else◌, List, [], ◌∷◌, ◌++◌, codes, length, map, filter, Option, Some, None, is_some, Result, Ok}
use Rattle.std.specs.Str.{bytes_eq}
use Rattle.gem_tables.specs.Table.{firing}
use Rattle.gem_tables.specs.declared.firing.Firing.{Firing}
use Rattle.item_model.specs.Data.{Data, list, no_items}
use Rattle.message_model.specs.declared.material.CarrierSlots.{CarrierSlots}
use Rattle.tool_tasks.specs.declared.words.JobWord.{JobWord}
use Rattle.tool_tasks.specs.declared.words.JobWord.TheVariants.{Start, Pause, Resume, Stop, Abort, Cancel}
use Rattle.process_job.specs.Jobs as process
use Rattle.process_job.specs.Creating.{create_fault}
use Rattle.process_job.specs.Commands as command
use Rattle.process_job.specs.Record.{job_starts}
use Rattle.process_job.specs.declared.job.JobSpec.{JobSpec}
use Rattle.process_job.specs.declared.job.Material.{Material}
use Rattle.process_job.specs.declared.job.ProcessJob.{ProcessJob}
use Rattle.control_job.specs.Commands as queue
use Rattle.control_job.specs.Jobs as control
use Rattle.control_job.specs.declared.command.CtlAct.{CtlAct}
use Rattle.control_job.specs.declared.command.CtlAct.TheVariants.{Row, Head}
use Rattle.control_job.specs.declared.job.ControlJob.{ControlJob}
use Rattle.tool_jobs.specs.Jobs.{Jobs}
use Rattle.tool_jobs.specs.Creating.{control_fault}
use Rattle.request_model.specs.declared.error.JobError.{JobError}
use Rattle.request_model.specs.declared.error.JobError.TheVariants.{UnknownObject, NotNow, UnknownCommand, NotOffered}
use Rattle.request_model.specs.declared.control.ControlRequest.{ControlRequest}
use Rattle.request_model.specs.Errors.{first_error, or_else, of_process_fault, of_control_fault, of_answer}
use Rattle.request_model.specs.Attributes.{Attribute, are_taken, object_named, jobs_named, starts_itself}

-- ---- names

-- a text is the name of a job: 1 to 64 bytes
abbrev pub is_job_name : List ℕ → Bool
is_job_name name = nat_le 1 (length name) && nat_le (length name) 64

-- ---- S16F5, a command on a process job

-- the command of a name; STARTPROCESS means the same as START
abbrev pub command_named : List ℕ → Option JobWord
command_named name =
    if bytes_eq name (codes "START") || bytes_eq name (codes "STARTPROCESS") then Some Start
    else (if bytes_eq name (codes "PAUSE") then Some Pause
    else (if bytes_eq name (codes "RESUME") then Some Resume
    else (if bytes_eq name (codes "STOP") then Some Stop
    else (if bytes_eq name (codes "ABORT") then Some Abort
    else (if bytes_eq name (codes "CANCEL") then Some Cancel else None)))))

-- why a command isn't done: it is unknown; it is ON-LINE LOCAL; the job isn't there, or the row doesn't start at its state
abbrev pub command_error : Bool → List ℕ → Option JobWord → Jobs → Option JobError
command_error local job None w = Some UnknownCommand
command_error local job (Some word) w = or_else (first_error ((local, NotNow) ∷ [])) (of_answer (command.command_answer job word w.process))

-- a row at a process job that was looked for
abbrev pub at_process : ℕ → Option ProcessJob → List Firing
at_process row None = []
at_process row (Some j) = firing 14 j.number row ∷ []

-- what a command fires that is done
abbrev pub command_rows : List ℕ → JobWord → Jobs → List Firing
command_rows job word w = at_process (command.row_of word) (process.job_named job w.process.kept)

-- ---- S16F11, a process job is created

-- a carrier with its slots, as a job has it
abbrev pub material_of : CarrierSlots → Material
material_of c = record { carrier = c.carrier; slots = c.slots }

-- the job that is asked for: its name, its material, its recipe, and whether it starts by itself
abbrev pub asked_process : List ℕ → List CarrierSlots → List ℕ → Bool → JobSpec
asked_process job carriers recipe start = record { id = job; material = map material_of carriers; recipe = recipe; auto = start }

-- a list without items
abbrev pub is_empty_list : Data → Bool
is_empty_list (list no_items) = true
is_empty_list d = false

-- why it isn't: it is ON-LINE LOCAL; the last list isn't empty; the name isn't that of a job; and the faults of a creation
abbrev pub process_error : Bool → JobSpec → Data → Jobs → Option JobError
process_error local spec events w =
    or_else (first_error ((local, NotNow) ∷ (not (is_empty_list events), NotOffered) ∷ (not (is_job_name spec.id), UnknownObject) ∷ []))
    (of_process_fault (create_fault spec w.process))

-- what its creation fires, by the jobs before it
abbrev pub process_rows : Jobs → List Firing
process_rows w = firing 14 (w.process.given + 1) 1 ∷ []

-- ---- S14F9, a control job is created

-- what the attributes ask for: whether they are taken, the name of the job, the process jobs that it names, and whether it starts by
-- itself
abbrev pub asked_control : List Attribute → ControlRequest
asked_control given = record { is_taken = are_taken given; name = object_named given; jobs = jobs_named given; auto = starts_itself given }

-- why it isn't: it is ON-LINE LOCAL; the type isn't ControlJob, or an attribute isn't taken; the name isn't that of a job; and the
-- faults of a creation
abbrev pub request_error : Bool → List ℕ → ControlRequest → Jobs → Option JobError
request_error local type r w =
    or_else (first_error ((local, NotNow) ∷ (not (bytes_eq type (codes "ControlJob") && r.is_taken), NotOffered) ∷ (not (is_job_name r.name), UnknownObject) ∷ []))
    (of_control_fault (control_fault r.name r.jobs w))

abbrev pub control_error : Bool → List ℕ → List Attribute → Jobs → Option JobError
control_error local type attributes w = request_error local type (asked_control attributes) w

-- what its creation fires, by the jobs before it
abbrev pub control_rows : Jobs → List Firing
control_rows w = firing 15 (w.control.given + 1) 1 ∷ []

-- ---- S16F17, process jobs are cancelled that are QUEUED

-- CANCEL can be done at a job: it is QUEUED
abbrev pub is_queued : ProcessJob → Bool
is_queued j = job_starts (command.row_of Cancel) j.states

-- the first of these names whose job isn't there or isn't QUEUED decides
abbrev pub names_error : List (List ℕ) → Jobs → Option JobError
names_error [] w = None
names_error (n ∷ names) w = or_else (of_answer (command.command_answer n Cancel w.process)) (names_error names w)

-- why they aren't: it is ON-LINE LOCAL; and the errors of the names
abbrev pub cancel_error : Bool → List (List ℕ) → Jobs → Option JobError
cancel_error local names w = or_else (first_error ((local, NotNow) ∷ [])) (names_error names w)

-- these names, each once, where it is first given
abbrev pub each_once : List (List ℕ) → List (List ℕ)
each_once [] = []
each_once (n ∷ names) = n ∷ filter (λ m. not (bytes_eq m n)) (each_once names)

-- the jobs that are cancelled: those that are named, each once, or where none is named all that are QUEUED, by creation
abbrev pub cancelled : List (List ℕ) → Jobs → List (List ℕ)
cancelled [] w = map (λ j. j.id) (filter is_queued w.process.kept)
cancelled (n ∷ names) w = each_once (n ∷ names)

-- what the cancelling of these fires, in that order
abbrev pub cancel_rows : List (List ℕ) → Jobs → List Firing
cancel_rows [] w = []
cancel_rows (n ∷ names) w = at_process (command.row_of Cancel) (process.job_named n w.process.kept) ++ cancel_rows names w

-- ---- S16F27, a command on a control job

-- the command is one of 1 to 8
abbrev pub is_control_command : ℕ → Bool
is_control_command cmd = is_some (queue.act_of cmd)

-- why it isn't done: it is unknown; it is ON-LINE LOCAL; the job isn't there, or it can't be done at its states
abbrev pub control_command_error : Bool → List ℕ → ℕ → Jobs → Option JobError
control_command_error local job cmd w =
    or_else (first_error ((not (is_control_command cmd), UnknownCommand) ∷ (local, NotNow) ∷ [])) (of_answer (queue.command_answer job cmd w.control.jobs))

-- what a command does to the queue that is answered so
abbrev pub control_after : List ℕ → Result CtlAct ℕ → Jobs → Jobs
control_after job (Ok Head) w = record w { control = control.headed job w.control }
control_after job _ w = w

-- a row at a control job that was looked for
abbrev pub at_control : ℕ → Option ControlJob → List Firing
at_control row None = []
at_control row (Some c) = firing 15 c.number row ∷ []

-- and what it fires
abbrev pub control_command_rows : List ℕ → Result CtlAct ℕ → Jobs → List Firing
control_command_rows job (Ok (Row row)) w = at_control row (control.job_named job w.control.jobs)
control_command_rows job _ w = []
