-- What the state of a process job is in its table, and what a row does to it (after SEMI E40; this tool's profile).
use Rattle.std.specs.Prelude.{ℕ, Bool}
use Rattle.gem_tables.specs.Table.{starts, after}
use Rattle.process_job.specs.Tables.{job_table, job_number}
use Rattle.process_job.specs.declared.record.JobState.TheVariants.{Queued}
use Rattle.process_job.specs.declared.record.ProcessJobRecord.{ProcessJobRecord}

-- a job as it is created: QUEUED (this tool's profile, table 14)
abbrev pub first_record : ProcessJobRecord
first_record = record { state = Queued }

-- a row of table 14 starts at this state; the row that creates a job starts at none
abbrev pub job_starts : ℕ → ProcessJobRecord → Bool
job_starts row j = starts job_number job_table row j.state

-- the state behind it; a row that doesn't start leaves it
abbrev pub job_fired : ℕ → ProcessJobRecord → ProcessJobRecord
job_fired row j = record j { state = after job_number job_table row j.state }
