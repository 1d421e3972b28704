-- What a command on a control job is answered, by the states before it (after SEMI E94; this tool's profile, S16F27).
use Rattle.std.specs.Prelude.{ℕ, ◌==◌, Bool, if◌then◌else◌, List, [], ◌∷◌, Option, Some, None, Result, Ok, Err}
use Rattle.gem_tables.specs.Table.{choose}
use Rattle.control_job.specs.Record.{control_starts}
use Rattle.control_job.specs.Jobs.{is_waiting, job_named}
use Rattle.control_job.specs.declared.job.ControlJob.{ControlJob}
use Rattle.control_job.specs.declared.command.CtlAct.{CtlAct}
use Rattle.control_job.specs.declared.command.CtlAct.TheVariants.{Row, Head}

-- what a command does: start, pause, resume, cancel, deselect, stop and abort fire a row of table 15, and head of queue makes a
-- job the first in the queue's order
abbrev pub act_of : ℕ → Option CtlAct
act_of cmd = choose (
    (cmd == 1, Row 5)
    ∷ (cmd == 2, Row 6)
    ∷ (cmd == 3, Row 7)
    ∷ (cmd == 4, Row 9)
    ∷ (cmd == 5, Row 10)
    ∷ (cmd == 6, Row 11)
    ∷ (cmd == 7, Row 12)
    ∷ (cmd == 8, Head)
    ∷ [])

-- it can be done at a job: the row starts there, or the job is QUEUED
abbrev pub can_act : CtlAct → ControlJob → Bool
can_act (Row row) j = control_starts row j.states
can_act Head j = is_waiting j

-- the answer: error 7 for an unknown command, 1 where no job has the name, 2 where it can't be done
abbrev pub answer : Option CtlAct → Option ControlJob → Result CtlAct ℕ
answer None j = Err 7
answer (Some act) None = Err 1
answer (Some act) (Some j) = if can_act act j then Ok act else Err 2

-- the answer to a command on the job of a name
abbrev pub command_answer : List ℕ → ℕ → List ControlJob → Result CtlAct ℕ
command_answer name cmd jobs = answer (act_of cmd) (job_named name jobs)
