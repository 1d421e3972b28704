-- Remote commands of the host (SEMI E5, S2F41; SEMI E30, remote control; this tool's profile, remote commands).
use Rattle.std.specs.Prelude.{option_and_then, ◌++◌, ℕ, ◌==◌, Bool, true, false, not, ◌||◌, if◌then◌else◌, List, [], ◌∷◌, codes, Option, Some, None, is_some, Result, Ok, Err}
use Rattle.std.specs.List.{find, list_any}
use Rattle.std.specs.Str.{bytes_eq}
use Rattle.gem_states.specs.declared.control.Control.{Control}
use Rattle.gem_states.specs.declared.control.Control.TheVariants as control
use Rattle.item_model.specs.Data.{Data}
use Rattle.item_model.specs.Ids.{id_of}
use Rattle.message_model.specs.Bodies.{text}
use Rattle.tool_tasks.specs.declared.words.JobWord.{JobWord}
use Rattle.tool_tasks.specs.declared.words.JobWord.TheVariants.{Start, Pause, Resume, Stop, Abort}
use Rattle.process_job.specs.Commands.{command_answer}
use Rattle.event_reports.specs.declared.alarms.AlarmLine.{AlarmLine}
use Rattle.event_reports.specs.Alarms.{is_alarm, is_set}
use Rattle.message_model.specs.declared.gem_reply.ParameterAcknowledge.{ParameterAcknowledge}
use Rattle.gem_model.specs.State.{State}

-- the commands: GOLOCAL, which takes no parameter; CLEARALARM, which takes the ALID of an alarm; and START, PAUSE, RESUME, STOP and ABORT,
-- which take the PRJOBID of a process job
pub data RemoteCommand : Type 0 where
  GoLocal : RemoteCommand
  ClearAlarm : RemoteCommand
  ToJob : JobWord → RemoteCommand

-- the command of a name
abbrev pub command_named : List ℕ → Option RemoteCommand
command_named name =
    if bytes_eq name (codes "GOLOCAL") then Some GoLocal
    else (if bytes_eq name (codes "CLEARALARM") then Some ClearAlarm
    else (if bytes_eq name (codes "START") then Some (ToJob Start)
    else (if bytes_eq name (codes "PAUSE") then Some (ToJob Pause)
    else (if bytes_eq name (codes "RESUME") then Some (ToJob Resume)
    else (if bytes_eq name (codes "STOP") then Some (ToJob Stop)
    else (if bytes_eq name (codes "ABORT") then Some (ToJob Abort) else None))))))

-- a parameter: its name, and its value
abbrev pub Parameter : Type 0
Parameter = List ℕ × Data

-- the command takes a parameter of this name
abbrev pub takes : RemoteCommand → List ℕ → Bool
takes GoLocal name = false
takes ClearAlarm name = bytes_eq name (codes "ALID")
takes (ToJob word) name = bytes_eq name (codes "PRJOBID")

-- the value of an ALID is an id, that of a PRJOBID a text
abbrev pub has_format : RemoteCommand → Data → Bool
has_format GoLocal value = false
has_format ClearAlarm value = is_some (id_of value)
has_format (ToJob word) value = is_some (text value)

-- the alarm of a number is one of the tool
abbrev pub is_alarm_known : List AlarmLine → Option ℕ → Bool
is_alarm_known alarms None = false
is_alarm_known alarms (Some alid) = is_alarm alid alarms

-- what a value of a parameter names can be so: the alarm that an ALID names is one of the tool, and a PRJOBID may name any job
abbrev pub is_known : RemoteCommand → List AlarmLine → Data → Bool
is_known GoLocal alarms value = false
is_known ClearAlarm alarms value = is_alarm_known alarms (id_of value)
is_known (ToJob word) alarms value = true

-- a parameter of this name was given
abbrev pub was_given : List Parameter → List ℕ → Bool
was_given earlier name = list_any (λ p. bytes_eq p.0 name) earlier

-- CPACK of a parameter, behind these others: 1 for an unknown name, 3 for a wrong format, 2 for an unknown alarm and for a
-- parameter that was given before; the first that fits. 0 where none does (SEMI E5, S2F42; this tool's profile, remote
-- commands)
abbrev pub cpack : RemoteCommand → List AlarmLine → List Parameter → Parameter → ℕ
cpack command alarms earlier p =
    if not (takes command p.0) then 1
    else (if not (has_format command p.1) then 3
    else (if not (is_known command alarms p.1) || was_given earlier p.0 then 2 else 0))

-- the faulty parameters, each with its CPACK, in order; these others stand before them
abbrev pub faulty : RemoteCommand → List AlarmLine → List Parameter → List Parameter → List ParameterAcknowledge
faulty command alarms earlier [] = []
faulty command alarms earlier (p ∷ ps) =
    if cpack command alarms earlier p == 0 then faulty command alarms (earlier ++ p ∷ []) ps
    else record { name = p.0; cpack = cpack command alarms earlier p } ∷ faulty command alarms (earlier ++ p ∷ []) ps

-- a parameter that the command needs is missing
abbrev pub is_missing : RemoteCommand → List Parameter → Bool
is_missing GoLocal ps = false
is_missing ClearAlarm ps = not (was_given ps (codes "ALID"))
is_missing (ToJob word) ps = not (was_given ps (codes "PRJOBID"))

-- the alarm that the parameters name
abbrev pub alarm_named : List Parameter → Option ℕ
alarm_named ps = option_and_then (λ p. id_of p.1) (find (λ p. bytes_eq p.0 (codes "ALID")) ps)

-- the process job that the parameters name
abbrev pub job_named : List Parameter → Option (List ℕ)
job_named ps = option_and_then (λ p. text p.1) (find (λ p. bytes_eq p.0 (codes "PRJOBID")) ps)

-- the operator commands: ON-LINE LOCAL (SEMI E30)
abbrev pub is_local : Control → Bool
is_local control.Local = true
is_local _ = false

abbrev pub has_some : List ParameterAcknowledge → Bool
has_some [] = false
has_some (a ∷ acknowledges) = true

-- HCACK, as far as the tool uses it (SEMI E5, S2F42; this tool's profile, remote commands)
pub data Hcack : Type 0 where
  UnknownCommand : Hcack
  NotNow : Hcack
  FaultyParameter : Hcack
  AlreadySo : Hcack
  NoObject : Hcack

-- its number
abbrev pub hcack_number : Hcack → ℕ
hcack_number UnknownCommand = 1
hcack_number NotNow = 2
hcack_number FaultyParameter = 3
hcack_number AlreadySo = 5
hcack_number NoObject = 6

-- what is decided of a remote command: it is refused with a code and the faulty parameters that S2F42 lists, or it is done, and
-- then HCACK is 0
pub data Decision : Type 0 where
  refused : Hcack → List ParameterAcknowledge → Decision
  goes_local : Decision
  clears : ℕ → Decision
  commands : List ℕ → JobWord → Decision

-- CLEARALARM of the alarm that is named, where it is set
abbrev pub clearing : List AlarmLine → Option ℕ → Decision
clearing alarms None = refused AlreadySo []
clearing alarms (Some alid) = if is_set alid alarms then clears alid else refused AlreadySo []

-- a command to the process job of a name, by its answer: there is no such job, or the command can't be done at its state
abbrev pub answered_so : List ℕ → JobWord → Result ℕ ℕ → Decision
answered_so job word (Ok row) = commands job word
answered_so job word (Err code) = refused (if code == 1 then NoObject else NotNow) []

-- the same of the job that is named
abbrev pub commanding : State → JobWord → Option (List ℕ) → Decision
commanding g word None = refused NoObject []
commanding g word (Some job) = answered_so job word (command_answer job word g.floor.jobs.process)

-- a command whose parameters are well formed
abbrev pub commanded : State → RemoteCommand → List Parameter → Decision
commanded g GoLocal ps = goes_local
commanded g ClearAlarm ps = clearing g.alarms (alarm_named ps)
commanded g (ToJob word) ps = commanding g word (job_named ps)

-- The first of these that fits: an unknown command; ON-LINE LOCAL; a parameter is faulty or missing, and the faulty ones are
-- listed; CLEARALARM of an alarm that is clear; a job that isn't there, or in a state at which the command can't be done. Else the command
-- is done (SEMI E5, S2F42; this tool's profile, remote commands).
abbrev pub decided_by : State → List Parameter → Option RemoteCommand → Decision
decided_by g ps None = refused UnknownCommand []
decided_by g ps (Some command) =
    if is_local g.control then refused NotNow []
    else (if has_some (faulty command g.alarms [] ps) || is_missing command ps then refused FaultyParameter (faulty command g.alarms [] ps)
    else commanded g command ps)

abbrev pub decided : State → List ℕ → List Parameter → Decision
decided g name ps = decided_by g ps (command_named name)
