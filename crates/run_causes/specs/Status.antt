-- The numbers with which the program ends (this tool's profile, statuses).
use Rattle.std.specs.Prelude.{ℕ}
use Rattle.run_causes.specs.declared.cause.Cause.{Cause}
use Rattle.run_causes.specs.declared.cause.Cause.TheVariants as cause

-- the status of a cause
abbrev pub status_of : Cause → ℕ
status_of cause.Done = 0
status_of (cause.Words place) = 1
status_of (cause.Config rule key) = 2
status_of cause.ReadFault = 3
status_of cause.WriteFault = 4
status_of (cause.Full entries bytes input) = 5
status_of (cause.Line number place) = 6
status_of cause.NoMemory = 7
status_of cause.Door = 8
status_of cause.Disk = 10
status_of (cause.Unread place) = 11
