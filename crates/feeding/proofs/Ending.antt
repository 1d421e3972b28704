-- What a run of feed did, from how its input ended.
use Rattle.std.proofs.Common.{◌≡◌, ◌≢◌, ℕ, List, [], Option, Err, inl, inr, refl, sym, subst, length, arith}
use Rattle.tool_events.specs.declared.entry.Entry.{Entry}
use Rattle.tool_events.specs.declared.config.Config.{Config}
use Rattle.history_parts.specs.CoreView.{CoreView}
use Rattle.line_feeding.specs.declared.halt.Halt.TheVariants as halt
use Rattle.run_causes.specs.declared.cause.Cause.{Cause}
use Rattle.run_causes.specs.declared.cause.Cause.TheVariants as cause
use Rattle.line_feeding.specs.declared.ended.SessionNote.{SessionNote}
use Rattle.feeding.specs.Views.{ReaderView}
use Rattle.line_feeding.specs.declared.halt.InputEnd.{InputEnd}
use Rattle.line_feeding.specs.declared.halt.InputEnd.TheVariants as input
use Rattle.line_feeding.specs.CauseOf.{cause_after, Refuses}
use Rattle.line_feeding.specs.Fed.{SourceView, FedBy, Fed, Shown, ReadToEnd}
use Rattle.line_feeding.specs.Going.{SinkView, Shows}
use Rattle.line_feeding.specs.Stopping.{GivenBy}
use Rattle.feeding.specs.InputEnds.{InputEnds, as_result}
use Rattle.feeding.specs.Standing.{Prints}
use Rattle.gem_model.specs.SessionBytes.{session_in}
use Rattle.line_feeding.specs.Reads.{AreCounts}
use Rattle.line_feeding.specs.Notes.{AreNotes}
use Rattle.line_feeding.specs.Noted.{NotedBy}
use Rattle.line_feeding.proofs.Reading.{Taken-nothing}
use Rattle.outside.proofs.Writing.{Written-nothing, WrittenFront-all}

pub FedBy-end : (end : InputEnd) (text : List ℕ) (count : ℕ) (reader : ReaderView) (source source' : SourceView) → length text ≡ count → InputEnds end text reader source source' → FedBy reader.feeder.core.config (cause_after end count reader.feeder.core.history reader.number) (ReadToEnd source source') text reader.feeder.core.history
FedBy-end input.Whole text count reader source source' size h = inl (h.0.told, h.1)
FedBy-end input.Fault text count reader source source' size h = h.0.told
FedBy-end input.Bound text count reader source source' size h = (inl (h.0.told, h.1), refl, refl, sym size)
FedBy-end (input.Halted (halt.Line place)) text count reader source source' size h = (h.told, h.at_line)
FedBy-end (input.Halted halt.Quit) text count reader source source' size h = inr (reader.number, h.told, h.at_line)
FedBy-end (input.Halted halt.Full) text count reader source source' size h = (inr h.told, refl, refl, sym size)
FedBy-end (input.Halted halt.Write) text count reader source source' size h = h.given
FedBy-end (input.Halted halt.NoMemory) text count reader source source' size h = h.given

-- a run whose cause is not a failed write did not end at one
pub not_write : (end : InputEnd) (count : ℕ) (history : List Entry) (number : ℕ) → cause_after end count history number ≢ cause.WriteFault → as_result end ≢ Err halt.Write
not_write input.Whole count history number other is = absurd (cc)
not_write input.Fault count history number other is = absurd (cc)
not_write input.Bound count history number other is = absurd (cc)
not_write (input.Halted (halt.Line place)) count history number other is = absurd (cc)
not_write (input.Halted halt.Quit) count history number other is = absurd (cc)
not_write (input.Halted halt.Full) count history number other is = absurd (cc)
not_write (input.Halted halt.Write) count history number other is = other refl
not_write (input.Halted halt.NoMemory) count history number other is = absurd (cc)

-- these are the notes, whatever bytes the counts are of
abbrev pub NotesFrom : ReaderView → List SessionNote → Type 0
NotesFrom reader notes = (read : ℕ → ℕ) → AreCounts reader.feeder.reads read → AreNotes reader.feeder.core.config reader.feeder.core.history read notes

-- where the cause isn't that a read failed, none did
pub not_read : (end : InputEnd) (count : ℕ) (history : List Entry) (number : ℕ) → cause_after end count history number ≢ cause.ReadFault → end ≢ input.Fault
not_read input.Whole count history number other is = absurd (cc)
not_read input.Fault count history number other is = other refl
not_read input.Bound count history number other is = absurd (cc)
not_read (input.Halted h) count history number other is = absurd (cc)

pub NotedBy-end : (end : InputEnd) (text : List ℕ) (count : ℕ) (reader : ReaderView) (notes : List SessionNote) (source source' : SourceView) → NotesFrom reader notes → InputEnds end text reader source source' → NotedBy reader.feeder.core.config (cause_after end count reader.feeder.core.history reader.number) (ReadToEnd source source') text reader.feeder.core.history notes
NotedBy-end input.Whole text count reader notes source source' are h = are _ h.0.read
NotedBy-end input.Fault text count reader notes source source' are h = are _ h.0.read
NotedBy-end input.Bound text count reader notes source source' are h = inl ((h.0.told, h.1), are _ h.0.read)
NotedBy-end (input.Halted (halt.Line place)) text count reader notes source source' are h =
    subst (λ (t : List ℕ). AreNotes reader.feeder.core.config reader.feeder.core.history (session_in reader.feeder.core.config t) notes) h.counts.marks (are _ h.counts.read)
NotedBy-end (input.Halted halt.Quit) text count reader notes source source' are h =
    subst (λ (t : List ℕ). AreNotes reader.feeder.core.config reader.feeder.core.history (session_in reader.feeder.core.config t) notes) h.counts.marks (are _ h.counts.read)
NotedBy-end (input.Halted halt.Full) text count reader notes source source' are h = inr (h.counts.taken, h.counts.marks, are _ h.counts.read)
NotedBy-end (input.Halted halt.Write) text count reader notes source source' are h = (h.counts.taken, h.counts.marks, are _ h.counts.read)
NotedBy-end (input.Halted halt.NoMemory) text count reader notes source source' are h = inr (h.counts.taken, h.counts.marks, are _ h.counts.read)

shows_first : (core : CoreView) (out : SinkView) → core.history ≡ [] → Shows out.held out core
shows_first core out none = rw none (Written-nothing out.held)

pub Shown-end : (end : InputEnd) (core core' : CoreView) (out out' : SinkView) (count number : ℕ) → core.history ≡ [] → Prints core core' out out' (as_result end) → Shown core'.config (cause_after end count core'.history number) out.held out'.held core'.history
Shown-end input.Whole core core' out out' count number none h = h.shows out.held (shows_first core out none)
Shown-end input.Fault core core' out out' count number none h = h.shows out.held (shows_first core out none)
Shown-end input.Bound core core' out out' count number none h = h.shows out.held (shows_first core out none)
Shown-end (input.Halted (halt.Line place)) core core' out out' count number none h = h.shows out.held (shows_first core out none)
Shown-end (input.Halted halt.Quit) core core' out out' count number none h = h.shows out.held (shows_first core out none)
Shown-end (input.Halted halt.Full) core core' out out' count number none h = h.shows out.held (shows_first core out none)
Shown-end (input.Halted halt.Write) core core' out out' count number none h = h.shows out.held (shows_first core out none)
Shown-end (input.Halted halt.NoMemory) core core' out out' count number none h = h.shows out.held (shows_first core out none)

-- without memory for the notes, at least a front of the lines is out
pub Shown-memory : (end : InputEnd) (core core' : CoreView) (out out' : SinkView) → core.history ≡ [] → Prints core core' out out' (as_result end) → Shown core'.config cause.NoMemory out.held out'.held core'.history
Shown-memory input.Whole core core' out out' none h = WrittenFront-all out.held out'.held _ (h.shows out.held (shows_first core out none))
Shown-memory input.Fault core core' out out' none h = WrittenFront-all out.held out'.held _ (h.shows out.held (shows_first core out none))
Shown-memory input.Bound core core' out out' none h = WrittenFront-all out.held out'.held _ (h.shows out.held (shows_first core out none))
Shown-memory (input.Halted (halt.Line place)) core core' out out' none h = WrittenFront-all out.held out'.held _ (h.shows out.held (shows_first core out none))
Shown-memory (input.Halted halt.Quit) core core' out out' none h = WrittenFront-all out.held out'.held _ (h.shows out.held (shows_first core out none))
Shown-memory (input.Halted halt.Full) core core' out out' none h = WrittenFront-all out.held out'.held _ (h.shows out.held (shows_first core out none))
Shown-memory (input.Halted halt.Write) core core' out out' none h = h.shows out.held (shows_first core out none)
Shown-memory (input.Halted halt.NoMemory) core core' out out' none h = h.shows out.held (shows_first core out none)

-- no session came
no_notes : (c : Config) (read : ℕ → ℕ) → AreNotes c [] read []
no_notes c read = record { count = refl; each = λ k less. absurd (omega (arith, less)) }

-- nothing gives no history
nothing_given : (c : Config) (Over : Type 0) → GivenBy Over c [] []
nothing_given c Over = ([], record { front = record { behind = []; joined = refl }; ends = inl refl }, record { behind = []; joined = refl })

-- without a configuration nothing was read of the input, no session came, and nothing was written
pub Fed-refused : (c : Config) (why : Cause) (config config' input : SourceView) → Refuses why config config' → Fed c why input input [] []
Fed-refused c (cause.Config rule key) config config' input h = ([], Taken-nothing input.left, (refl, refl), refl)
Fed-refused c cause.ReadFault config config' input h = ([], Taken-nothing input.left, refl, no_notes c _)
Fed-refused c cause.NoMemory config config' input h = ([], Taken-nothing input.left, nothing_given c _, inl refl)
Fed-refused c _ config config' input h = absurd h

pub Shown-refused : (c : Config) (why : Cause) (config config' : SourceView) (held : Option (List ℕ)) → Refuses why config config' → Shown c why held held []
Shown-refused c (cause.Config rule key) config config' held h = Written-nothing held
Shown-refused c cause.ReadFault config config' held h = Written-nothing held
Shown-refused c cause.NoMemory config config' held h = WrittenFront-all held held [] (Written-nothing held)
Shown-refused c _ config config' held h = absurd h
