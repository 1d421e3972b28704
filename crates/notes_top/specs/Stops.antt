-- Why a run of lines stops (this tool's profile, durable spool).
use Rattle.std.specs.Prelude.{ℕ, Result, Ok, Err}
use Rattle.run_causes.specs.declared.cause.Cause.{Cause}
use Rattle.run_causes.specs.declared.cause.Cause.TheVariants as cause
use Rattle.spool_format.specs.declared.fault.NvFault.{NvFault}
use Rattle.spool_format.specs.declared.fault.NvFault.TheVariants as fault
use Rattle.notes_top.specs.declared.stop.Stop.{Stop}
use Rattle.notes_top.specs.declared.stop.Stop.TheVariants as stop

-- why a fault of the spool stops the lines
abbrev pub stop_of : NvFault → Stop
stop_of fault.Disk = stop.Disk
stop_of fault.Closed = stop.Disk
stop_of (fault.Unread place) = stop.Unread place
stop_of fault.NoMemory = stop.NoMemory

-- whether an answer of the spool stops them
abbrev pub stopped : {A : Type 0} → Result A NvFault → Result (Unit {0}) Stop
stopped (Ok x) = Ok tt
stopped (Err e) = Err (stop_of e)

-- why a run ends that stops in the line of this number
abbrev pub cause_of : Stop → ℕ → Cause
cause_of stop.Write number = cause.WriteFault
cause_of stop.NoMemory number = cause.NoMemory
cause_of (stop.Line place) number = cause.Line number place
cause_of stop.Disk number = cause.Disk
cause_of (stop.Unread place) number = cause.Unread place
