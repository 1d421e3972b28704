-- What `serve` did (this tool's profile, serving).
use Rattle.std.specs.Prelude.{◌≡◌, ◌⊎◌, ℕ, ⊤, Bool, true, false, List, [], Option}
use Rattle.outside.specs.Counts.{Rose, Failed}
use Rattle.outside.specs.Told.{AtPort, Written, WrittenFront}
use Rattle.tool_events.specs.declared.config.Config.{Config}
use Rattle.tool_events.specs.declared.entry.Entry.{Entry}
use Rattle.host_actor.specs.declared.bytes.SessionBytes.{SessionBytes}
use Rattle.host_actor.specs.Links.{LinkTold}
use Rattle.tool_crew.specs.declared.ends.Ends.{Ends}
use Rattle.tool_crew.specs.Crews.{Outside}
use Rattle.tool_crew.specs.Ran.{RunDid}
use Rattle.session_laws.specs.Kept.{SessionsKept}
use Rattle.run_causes.specs.declared.cause.Cause.{Cause}
use Rattle.run_causes.specs.declared.cause.Cause.TheVariants as cause
use Rattle.line_feeding.specs.declared.ended.SessionNote.{SessionNote}
use Rattle.line_feeding.specs.Fed.{SourceView, IsRead, IsRefused}
use Rattle.line_feeding.specs.Going.{SinkView}
use Rattle.serving.specs.Log.{log_of}
use Rattle.serving.specs.Ending.{cause_behind, notes_of}

-- the text of a log was written, all of it or not: where not, a write failed or took nothing of a piece
abbrev pub LoggedText : List ℕ → Bool → SinkView → SinkView → Type 0
LoggedText text true log log' = Written log.held log'.held text
LoggedText text false log log' = WrittenFront log.held log'.held text × Failed log.faults log'.faults log.refusals log'.refusals

-- so was the log of the history
abbrev pub Logged : Config → List Entry → Bool → SinkView → SinkView → Type 0
Logged c history logged log log' = LoggedText (log_of c history) logged log log'

-- How a run is closed. The notes and the cause are those of the run, and its log was written; or memory ran out behind the run: then
-- nothing was logged, and there may be no notes.
abbrev pub Closed : Config → List Entry → List SessionBytes → ℕ → Ends → Cause → SinkView → SinkView → List SessionNote → Type 0
Closed c history sessions script_bytes ends why log log' notes =
    ((logged : Bool) × Logged c history logged log log' × (notes ≡ notes_of c history sessions) × (why ≡ cause_behind ends logged history script_bytes))
    ⊎ ((why ≡ cause.NoMemory) × (log' ≡ log) × ((notes ≡ []) ⊎ (notes ≡ notes_of c history sessions)))

-- the world outside with a door that was asked to listen at this port, where it tells that
abbrev pub asked : {L : Type 0} → Outside L → Option ℕ → Outside L
asked out port = record out { door = record out.door { port = port } }

-- The door was opened at the port of the configuration, the actors ran, and the run was closed. The history has of each session of the
-- host what its link told.
pub record Ran {L : Type 0} (told : L → LinkTold) (c : Config) (why : Cause) (out out' : Outside L) (log log' : SinkView) (history : List Entry) (notes : List SessionNote) : Type 0 where
  pub sessions : List SessionBytes
  pub script_bytes : ℕ
  pub ends : Ends
  pub port : AtPort out'.door.port c.tcp_port
  pub run : RunDid told (asked out out'.door.port) out' c history sessions script_bytes ends
  pub kept : SessionsKept told c history out.door out'.door sessions
  pub closed : Closed c history sessions script_bytes ends why log log' notes

-- how it is closed where the door could not be opened: the log is that of a history without an entry, unless there was no memory
abbrev pub ClosedUnopened : Config → Cause → SinkView → SinkView → Type 0
ClosedUnopened c why log log' = ((logged : Bool) × Logged c [] logged log log' × (why ≡ cause.Door)) ⊎ ((why ≡ cause.NoMemory) × (log' ≡ log))

-- No actor ran: the door could not be opened at the port of the configuration, or there was no memory.
pub record NoneRan {L : Type 0} (c : Config) (why : Cause) (out out' : Outside L) (log log' : SinkView) (history : List Entry) (notes : List SessionNote) : Type 0 where
  pub none : (history ≡ []) × (notes ≡ [])
  pub stays : (out'.script ≡ out.script) × (out'.moments ≡ out.moments) × (out'.door ≡ record out.door { port = out'.door.port; faults = out'.door.faults })
  pub port : AtPort out'.door.port c.tcp_port
  pub closed : (Rose out.door.faults out'.door.faults × ClosedUnopened c why log log') ⊎ ((why ≡ cause.NoMemory) × (log' ≡ log))

-- what `serve` did under a configuration
abbrev pub ServedUnder : {L : Type 0} → (L → LinkTold) → Config → Cause → Outside L → Outside L → SinkView → SinkView → List Entry → List SessionNote → Type 0
ServedUnder told c why out out' log log' history notes = Ran told c why out out' log log' history notes ⊎ NoneRan c why out out' log log' history notes

-- why no configuration was read; then nothing else was touched
abbrev pub NotRead : Cause → SourceView → SourceView → Type 0
NotRead (cause.Words place) config config' = config' ≡ config
NotRead (cause.Config rule key) config config' = IsRefused config config' rule key
NotRead cause.ReadFault config config' = Rose config.faults config'.faults
NotRead cause.NoMemory config config' = ⊤
NotRead _ config config' = ⊥

-- no configuration was read, and nothing happened
pub record NothingServed {L : Type 0} (why : Cause) (config config' : SourceView) (out out' : Outside L) (log log' : SinkView) (history : List Entry) (notes : List SessionNote) : Type 0 where
  pub why_so : NotRead why config config'
  pub none : (history ≡ []) × (notes ≡ [])
  pub stays : (out' ≡ out) × (log' ≡ log)

-- what `serve` did: a configuration was read to its end, and it ran under it; or none was, and nothing happened
abbrev pub Served : {L : Type 0} → (L → LinkTold) → Cause → SourceView → SourceView → Outside L → Outside L → SinkView → SinkView → List Entry → List SessionNote → Type 0
Served told why config config' out out' log log' history notes =
    ((c : Config) × IsRead config config' c × ServedUnder told c why out out' log log' history notes)
    ⊎ NothingServed why config config' out out' log log' history notes
