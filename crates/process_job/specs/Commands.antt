-- What a command to a process job fires (after SEMI E40; this tool's profile, S16F5).
use Rattle.std.specs.Prelude.{ℕ, if◌then◌else◌, List, Option, Some, None, Result, Ok, Err}
use Rattle.tool_tasks.specs.declared.words.JobWord.{JobWord}
use Rattle.tool_tasks.specs.declared.words.JobWord.TheVariants.{Start, Pause, Resume, Stop, Abort, Cancel}
use Rattle.process_job.specs.Record.{job_starts}
use Rattle.process_job.specs.Jobs.{JobBook, job_named}
use Rattle.process_job.specs.declared.job.ProcessJob.{ProcessJob}

-- the row of a command
abbrev pub row_of : JobWord → ℕ
row_of Start = 5
row_of Pause = 8
row_of Resume = 10
row_of Stop = 11
row_of Abort = 12
row_of Cancel = 15

-- the row, or error 1 where the job isn't there, and 2 where the row doesn't start at its state
abbrev pub answer_at : ℕ → Option ProcessJob → Result ℕ ℕ
answer_at row None = Err 1
answer_at row (Some j) = if job_starts row j.states then Ok row else Err 2

-- what is answered of a command to the job of a name
abbrev pub command_answer : List ℕ → JobWord → JobBook → Result ℕ ℕ
command_answer id w b = answer_at (row_of w) (job_named id b.kept)
