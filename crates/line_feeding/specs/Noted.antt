-- The notes of a run of feed, by how it ended.
use Rattle.text_lines.specs.Lines.{whole_lines}
use Rattle.std.specs.Prelude.{◌≡◌, ◌⊎◌, ℕ, List, []}
use Rattle.tool_events.specs.declared.config.Config.{Config}
use Rattle.tool_events.specs.declared.entry.Entry.{Entry}
use Rattle.gem_model.specs.SessionBytes.{session_in}
use Rattle.run_causes.specs.declared.cause.Cause.{Cause}
use Rattle.run_causes.specs.declared.cause.Cause.TheVariants as cause
use Rattle.line_feeding.specs.declared.ended.SessionNote.{SessionNote}
use Rattle.line_feeding.specs.Limits.{MeetsBound}
use Rattle.line_feeding.specs.Notes.{AreNotes}
use Rattle.line_feeding.specs.Stopping.{StoppedIn, FullIn, FaultIn}

-- one note a session, whose bytes are those that these lines gave
abbrev pub NotesOf : Config → List Entry → List SessionNote → List ℕ → Type 0
NotesOf c history notes taken = AreNotes c history (session_in c taken) notes

-- The notes count all lines of the text; its whole lines, where the reading broke off; up to the line of the entry that
-- does not fit the limits, or whose lines could not be written; and after want of memory there are none, or they count
-- up to the line in which it came. No run of feed ends at a door. Over says of the text that no more follows.
abbrev pub NotedBy : Config → Cause → Type 0 → List ℕ → List Entry → List SessionNote → Type 0
NotedBy c cause.Done Over text history notes = NotesOf c history notes text
NotedBy c cause.ReadFault Over text history notes = NotesOf c history notes (whole_lines text)
NotedBy c (cause.Full entries bytes input) Over text history notes =
    (MeetsBound c text history × NotesOf c history notes (whole_lines text))
    ⊎ ((taken : List ℕ) × FullIn Over c text history taken × NotesOf c history notes taken)
NotedBy c (cause.Line number place) Over text history notes = NotesOf c history notes text
NotedBy c cause.WriteFault Over text history notes =
    (taken : List ℕ) × FaultIn Over c text history taken × NotesOf c history notes taken
NotedBy c cause.NoMemory Over text history notes =
    (notes ≡ []) ⊎ ((taken : List ℕ) × StoppedIn Over c text history taken × NotesOf c history notes taken)
NotedBy c (cause.Words place) Over text history notes = notes ≡ []
NotedBy c (cause.Config rule key) Over text history notes = notes ≡ []
NotedBy c _ Over text history notes = ⊥
