-- What a run of feed did, by how it ended.
use Rattle.std.specs.Prelude.{◌≡◌, ◌⊎◌, ℕ, ◌+◌, ◌≤◌, List, [], length, Option}
use Rattle.outside.specs.Counts.{Rose}
use Rattle.outside.specs.Told.{Taken, Written, WrittenFront, Whole}
use Rattle.tool_events.specs.declared.entry.Entry.{Entry}
use Rattle.tool_events.specs.declared.config.Config.{Config}
use Rattle.configuration.specs.declared.fault.ConfigFault.TheVariants as fault
use Rattle.configuration.specs.Reading.{configuration_bytes, Says, Breaks}
use Rattle.gem_model.specs.State.{opening}
use Rattle.gem_model.specs.Sizes.{bytes_of}
use Rattle.gem_model.specs.Run.{after_all}
use Rattle.history_laws.specs.Recorded.{Recorded}
use Rattle.text_lines.specs.Lines.{whole_lines}
use Rattle.line_grammar.specs.Texts.{NumberEnded}
use Rattle.gem_model.specs.Feed.{AllRead, OutsideGrammar, QuitAt, feed_entries}
use Rattle.gem_model.specs.Printed.{printed}
use Rattle.run_causes.specs.declared.cause.Cause.{Cause}
use Rattle.run_causes.specs.declared.cause.Cause.TheVariants as cause
use Rattle.line_feeding.specs.declared.ended.SessionNote.{SessionNote}
use Rattle.driving.specs.Limits.{IsFullAt}
use Rattle.line_feeding.specs.Limits.{MeetsBound}
use Rattle.line_feeding.specs.Stopping.{GivenBy}
use Rattle.line_feeding.specs.Noted.{NotedBy}

-- what a source tells: the bytes that it has left, where it tells them, how often it failed, and how often it ended
pub record SourceView : Type 0 where
  pub left : Option (List ℕ)
  pub faults : ℕ
  pub ends : ℕ

abbrev pub looked : {S : Type 0} → (S → Option (List ℕ)) → (S → ℕ) → (S → ℕ) → S → SourceView
looked left faults ends source = record { left = left source; faults = faults source; ends = ends source }

-- The history is what the text gave that was read: all of it, where no more follows; up to the line that ended the run,
-- which has ended; of its whole lines, where the reading broke off; up to a
-- line that stopped it, which has ended; up to an entry that doesn't fit the limits; or, after want of memory or a write
-- fault, a front of what lines give that have ended. No run of feed ends at a door. Over says of the text that no more follows.
abbrev pub FedBy : Config → Cause → Type 0 → List ℕ → List Entry → Type 0
FedBy c cause.Done Over text history =
    ((feed_entries c text ≡ record { entries = history; stop = AllRead }) × Over)
    ⊎ ((number : ℕ) × (feed_entries c text ≡ record { entries = history; stop = QuitAt number }) × NumberEnded Over text number)
FedBy c cause.ReadFault Over text history = feed_entries c (whole_lines text) ≡ record { entries = history; stop = AllRead }
FedBy c (cause.Full entries bytes input) Over text history =
    (MeetsBound c text history ⊎ IsFullAt c history (feed_entries c text).entries)
    × (entries ≡ length history) × (bytes ≡ bytes_of history) × (input ≡ length text)
FedBy c (cause.Line number place) Over text history =
    (feed_entries c text ≡ record { entries = history; stop = OutsideGrammar number place })
    × NumberEnded Over text number
FedBy c cause.WriteFault Over text history = GivenBy Over c text history
FedBy c cause.NoMemory Over text history = GivenBy Over c text history
FedBy c (cause.Words place) Over text history = (text ≡ []) × (history ≡ [])
FedBy c (cause.Config rule key) Over text history = (text ≡ []) × (history ≡ [])
FedBy c _ Over text history = ⊥

-- the input was read to its end: what was taken off it is all that it had
abbrev pub ReadToEnd : SourceView → SourceView → Type 0
ReadToEnd input input' = Rose input.ends input'.ends × ((text : List ℕ) → Taken input.left input'.left text → Whole input.left text)

-- this text was read of the input, gave the history, and the notes are of it; no more follows where the input was read to
-- its end
abbrev pub Fed : Config → Cause → SourceView → SourceView → List Entry → List SessionNote → Type 0
Fed c cause input input' history notes =
    (text : List ℕ) × Taken input.left input'.left text × FedBy c cause (ReadToEnd input input') text history
    × NotedBy c cause (ReadToEnd input input') text history notes

-- Behind what was held the lines of the history are out, all of them, or, after want of memory or a write fault, a front. No run
-- of feed ends at a door.
abbrev pub Shown : Config → Cause → Option (List ℕ) → Option (List ℕ) → List Entry → Type 0
Shown c cause.WriteFault held held' history = WrittenFront held held' (printed (opening c) history)
Shown c cause.NoMemory held held' history = WrittenFront held held' (printed (opening c) history)
Shown c cause.Done held held' history = Written held held' (printed (opening c) history)
Shown c cause.ReadFault held held' history = Written held held' (printed (opening c) history)
Shown c (cause.Full entries bytes input) held held' history = Written held held' (printed (opening c) history)
Shown c (cause.Line number place) held held' history = Written held held' (printed (opening c) history)
Shown c (cause.Words place) held held' history = Written held held' (printed (opening c) history)
Shown c (cause.Config rule key) held held' history = Written held held' (printed (opening c) history)
Shown c _ held held' history = ⊥

-- the configuration was read to its end, and says this (this tool's profile, configuration)
pub record IsRead (config config' : SourceView) (c : Config) : Type 0 where
  pub text : List ℕ
  pub taken : Taken config.left config'.left text
  pub says : Says text c
  pub whole : Whole config.left text
  pub end : Rose config.ends config'.ends

-- The text that was read is no configuration: this is the least rule that it breaks, with its key. It was read to its end, or
-- to one byte more than a configuration may have (this tool's profile, configuration).
pub record IsRefused (config config' : SourceView) (rule : ℕ) (key : List ℕ) : Type 0 where
  pub text : List ℕ
  pub taken : Taken config.left config'.left text
  pub breaks : Breaks text (fault.Rule rule key)
  pub whole : length text ≤ configuration_bytes → Whole config.left text
  pub most : length text ≤ configuration_bytes + 1

-- What was read of the configuration: nothing where the words are refused; a text that is none; or this one, to its end. Where
-- a read failed or memory ran out before that, the history is empty. No run of feed ends at a door.
abbrev pub Configured : Config → Cause → SourceView → SourceView → List Entry → Type 0
Configured c (cause.Words place) config config' history = config' ≡ config
Configured c (cause.Config rule key) config config' history = IsRefused config config' rule key
Configured c cause.ReadFault config config' history = IsRead config config' c ⊎ (history ≡ [])
Configured c cause.NoMemory config config' history = IsRead config config' c ⊎ (history ≡ [])
Configured c cause.WriteFault config config' history = IsRead config config' c
Configured c cause.Done config config' history = IsRead config config' c
Configured c (cause.Full entries bytes input) config config' history = IsRead config config' c
Configured c (cause.Line number place) config config' history = IsRead config config' c
Configured c _ config config' history = ⊥

-- what a run did under a configuration
pub record RanUnder (c : Config) (why : Cause) (input input' : SourceView) (held held' : Option (List ℕ)) (history : List Entry) (notes : List SessionNote) : Type 0 where
  -- All that is recorded holds of the history: it is a run of the tables from the first state, its notes are those that were
  -- reported, each with one fate and sent in order, and so on.
  pub recorded : Recorded c history (after_all (opening c) history)
  -- It is within the limits.
  pub entries_fit : length history ≤ c.max_entries
  pub bytes_fit : bytes_of history ≤ c.max_bytes
  -- It is what the text gave that was read of the input, and so are the notes, one for each session.
  pub fed : Fed c why input input' history notes
  -- Its lines are written, and no others.
  pub printed : Shown c why held held' history
