-- Why a run of all actors ended, and the notes of its sessions (this tool's profile, serving and statuses).
use Rattle.std.specs.Prelude.{ℕ, Bool, true, false, List, length, map, unwrap_or}
use Rattle.tool_events.specs.declared.config.Config.{Config}
use Rattle.tool_events.specs.declared.entry.Entry.{Entry}
use Rattle.tool_events.specs.declared.event.SessionCause.TheVariants.{Stopped}
use Rattle.gem_model.specs.State.{opening}
use Rattle.gem_model.specs.Sessions.{session_end}
use Rattle.gem_model.specs.Sizes.{bytes_of}
use Rattle.actors.specs.declared.end.ActorEnd.{ActorEnd}
use Rattle.actors.specs.declared.end.ActorEnd.TheVariants as end
use Rattle.host_actor.specs.declared.bytes.SessionBytes.{SessionBytes}
use Rattle.tool_crew.specs.declared.ends.Ends.{Ends}
use Rattle.host_actor.specs.Sessions.{end_behind}
use Rattle.run_causes.specs.declared.cause.Cause.{Cause}
use Rattle.run_causes.specs.declared.cause.Cause.TheVariants as cause
use Rattle.line_feeding.specs.declared.ended.SessionNote.{SessionNote}

-- the cause of an end, where the history has so many entries and bytes of text, and so many bytes of the script were read: one that is
-- Quit is none, and then all was done if all of the log was written
abbrev pub cause_of : ActorEnd → Bool → ℕ → ℕ → ℕ → Cause
cause_of end.Quit true entries bytes script = cause.Done
cause_of end.Quit false entries bytes script = cause.WriteFault
cause_of end.Full logged entries bytes script = cause.Full entries bytes script
cause_of end.NoMemory logged entries bytes script = cause.NoMemory
cause_of end.ReadFault logged entries bytes script = cause.ReadFault
cause_of (end.Line number place) logged entries bytes script = cause.Line number place
cause_of end.Door logged entries bytes script = cause.Door

-- the actor whose end is told: the first that didn't end with Quit, in the order host, operator, clock, modules
abbrev pub told_end : Ends → ActorEnd
told_end ends = end_behind ends.host (end_behind ends.operator (end_behind ends.clock ends.modules))

-- why a run ended whose actors ended so
abbrev pub cause_behind : Ends → Bool → List Entry → ℕ → Cause
cause_behind ends logged history script = cause_of (told_end ends) logged (length history) (bytes_of history) script

-- The note of a session: the bytes that its reader read and its writer wrote, and why it ended; Stopped where the run ended while it
-- was up.
abbrev pub note_of : Config → List Entry → SessionBytes → SessionNote
note_of c history s = record {
  session = s.session;
  read = s.read;
  written = s.written;
  cause = unwrap_or (session_end (opening c) history s.session) Stopped;
}

-- a note for each session, in order
abbrev pub notes_of : Config → List Entry → List SessionBytes → List SessionNote
notes_of c history sessions = map (note_of c history) sessions
