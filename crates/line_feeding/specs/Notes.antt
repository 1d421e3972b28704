-- The notes of the sessions.
use Rattle.std.specs.Prelude.{◌≡◌, ℕ, suc, ◌<◌, List, length, Some, unwrap_or, slice_get}
use Rattle.tool_events.specs.declared.config.Config.{Config}
use Rattle.tool_events.specs.declared.entry.Entry.{Entry}
use Rattle.tool_events.specs.declared.event.SessionCause.TheVariants.{Stopped}
use Rattle.gem_model.specs.State.{opening}
use Rattle.gem_model.specs.Sessions.{session_count, session_end, session_out}
use Rattle.gem_model.specs.Sizes.{counted}
use Rattle.line_feeding.specs.declared.ended.SessionNote.{SessionNote}

-- The note of a session, to which the lines gave so many bytes: what came in it, what its frames hold that went out, and
-- why it ended. Stopped says that the run ended while it was up (this tool's profile, sessions).
abbrev pub note_of : Config → List Entry → (ℕ → ℕ) → ℕ → SessionNote
note_of c history read session = record {
  session = session;
  read = counted (read session);
  written = counted (length (session_out (opening c) history session));
  cause = unwrap_or (session_end (opening c) history session) Stopped;
}

-- one note for each session that came, in order
pub record AreNotes (c : Config) (history : List Entry) (read : ℕ → ℕ) (notes : List SessionNote) : Type 0 where
  pub count : length notes ≡ session_count (opening c) history
  pub each : (k : ℕ) → k < length notes → slice_get notes k ≡ Some (note_of c history read (suc k))
