-- Where the reader of a text stands.
use Rattle.std.specs.Prelude.{◌≡◌, ◌≢◌, ℕ, ◌+◌, ◌≤◌, ⊤, List, ◌++◌, length, Option, Result, Ok, Err, IsErrOf}
use Rattle.text_lines.specs.Lines.{IsOneLine, lines_of, whole_lines}
use Rattle.tool_events.specs.declared.entry.Entry.{Entry}
use Rattle.tool_events.specs.declared.config.Config.{Config}
use Rattle.line_grammar.specs.Texts.{IsFront}
use Rattle.gem_model.specs.SessionBytes.{lines_bytes_in, session_in}
use Rattle.gem_model.specs.Feed.{Reading, Told, AllRead, OutsideGrammar, QuitAt, feed_lines, feed_entries, told_behind}
use Rattle.history_parts.specs.CoreView.{CoreView}
use Rattle.line_feeding.specs.declared.halt.Halt.{Halt}
use Rattle.line_feeding.specs.declared.halt.Halt.TheVariants as halt
use Rattle.feeding.specs.Views.{ReaderView}
use Rattle.driving.specs.Limits.{IsFullAt}
use Rattle.outside.specs.Counts.{Failed}
use Rattle.line_feeding.specs.Going.{SinkView, Shows, ShowsAtEnd}
use Rattle.line_feeding.specs.Reads.{HaveRead}
use Rattle.feeding.specs.Reading.{IsReading}
use Rattle.line_feeding.specs.Stopping.{GivenBy, CountsTo, AtLine}

-- The text up to now is whole lines and then a part of a line, whose number is told. The history is what the whole lines
-- gave, the counts are of their bytes, and whatever follows them goes on from here.
pub record Stands (text : List ℕ) (reader : ReaderView) : Type 0 where
  pub whole : List ℕ
  pub reading : Reading
  pub text_is : text ≡ whole ++ reader.line
  pub line : IsOneLine reader.line
  pub ends : (part : List ℕ) → IsOneLine part → whole_lines (whole ++ part) ≡ whole
  pub count : (more : List ℕ) → length (lines_of (whole ++ more)) + 1 ≡ reader.number + length (lines_of more)
  pub goes_on : (more : List ℕ) → feed_entries reader.feeder.core.config (whole ++ more) ≡ told_behind reader.feeder.core.history (feed_lines reader.number reading (lines_of more))
  pub is : IsReading reading reader.feeder.core reader.feeder.cutter
  pub read : HaveRead reader.feeder.core.config whole reader.feeder.reads
  pub reads_on : (more : List ℕ) (session : ℕ) → session_in reader.feeder.core.config (whole ++ more) session ≡ session_in reader.feeder.core.config whole session + lines_bytes_in reading (lines_of more) session

-- where the reader stopped: its history is what is told, up to an entry that doesn't fit the limits, or, after want of
-- memory or a write fault, a front of it
abbrev pub StoppedAs : Config → Told → List Entry → ℕ → Halt → Type 0
StoppedAs c told history number (halt.Line place) = told ≡ record { entries = history; stop = OutsideGrammar number place }
StoppedAs c told history number halt.Quit = told ≡ record { entries = history; stop = QuitAt number }
StoppedAs c told history number halt.Full = IsFullAt c history told.entries
StoppedAs c told history number halt.Write = IsFront history told.entries
StoppedAs c told history number halt.NoMemory = IsFront history told.entries

-- where the reader stopped in a text, and the counts of what came until then; Over says that no more follows the text
pub record StopsAt (Over : Type 0) (text : List ℕ) (reader : ReaderView) (why : Halt) : Type 0 where
  pub told : StoppedAs reader.feeder.core.config (feed_entries reader.feeder.core.config text) reader.feeder.core.history reader.number why
  pub at_line : AtLine why Over text reader.number
  pub given : GivenBy Over reader.feeder.core.config text reader.feeder.core.history
  pub counts : CountsTo why Over reader.feeder.core.config text reader.feeder.core.history reader.feeder.reads

-- the output goes on with the history
pub record Prints (core core' : CoreView) (out out' : SinkView) (result : Result (Unit {0}) Halt) : Type 0 where
  pub config : core'.config ≡ core.config
  pub shows : (start : Option (List ℕ)) → Shows start out core → ShowsAtEnd start out' core' result
  pub cause : IsErrOf result halt.Write → Failed out.faults out'.faults out.refusals out'.refusals
  pub unfailed : result ≢ Err halt.Write → (out'.faults ≡ out.faults) × (out'.refusals ≡ out.refusals)
  pub faults_stay : out.faults ≤ out'.faults
  pub refusals_stay : out.refusals ≤ out'.refusals

-- the reader stands behind the bytes, or stopped in them, whatever follows
abbrev pub StandsOrStopped : List ℕ → ReaderView → Result (Unit {0}) Halt → Type 0
StandsOrStopped text reader (Ok done) = Stands text reader
StandsOrStopped text reader (Err why) = (more : List ℕ) → StopsAt ⊥ (text ++ more) reader why

-- bytes are taken behind this text: where the reader stands then, and what is out
pub record Takes (text bytes : List ℕ) (old new : ReaderView) (out out' : SinkView) (result : Result (Unit {0}) Halt) : Type 0 where
  pub stands : StandsOrStopped (text ++ bytes) new result
  pub prints : Prints old.feeder.core new.feeder.core out out' result

-- all lines of the text are taken
pub record AllTaken (text : List ℕ) (reader : ReaderView) : Type 0 where
  pub told : feed_entries reader.feeder.core.config text ≡ record { entries = reader.feeder.core.history; stop = AllRead }
  pub read : HaveRead reader.feeder.core.config text reader.feeder.reads

-- the whole text is taken, or the reader stopped in its last line
abbrev pub AllOrStopped : List ℕ → ReaderView → Result (Unit {0}) Halt → Type 0
AllOrStopped text reader (Ok done) = AllTaken text reader
AllOrStopped text reader (Err why) = StopsAt ⊤ text reader why

-- the text ends: what the reader took of it, and what is out
pub record Finishes (text : List ℕ) (old new : ReaderView) (out out' : SinkView) (result : Result (Unit {0}) Halt) : Type 0 where
  pub ends : AllOrStopped text new result
  pub prints : Prints old.feeder.core new.feeder.core out out' result
