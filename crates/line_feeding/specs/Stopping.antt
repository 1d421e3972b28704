-- Where in a text a run stopped. The text is what was read so far; Over says of it that no more follows.
use Rattle.std.specs.Prelude.{◌≡◌, ◌⊎◌, ℕ, ◌<◌, ⊤, List, ◌∷◌, ◌++◌, length}
use Rattle.tool_events.specs.declared.config.Config.{Config}
use Rattle.tool_events.specs.declared.entry.Entry.{Entry}
use Rattle.text_lines.specs.Lines.{whole_lines}
use Rattle.line_grammar.specs.Texts.{IsFront, LineEnded, NumberEnded, EndedLines}
use Rattle.gem_model.specs.Feed.{feed_entries}
use Rattle.line_feeding.specs.declared.halt.Halt.{Halt}
use Rattle.line_feeding.specs.declared.halt.Halt.TheVariants as halt
use Rattle.line_feeding.specs.Reads.{HaveRead}

-- the history is a front of what lines give that have ended
abbrev pub GivenBy : Type 0 → Config → List ℕ → List Entry → Type 0
GivenBy Over c text history =
    (taken : List ℕ) × EndedLines Over text taken × IsFront history (feed_entries c taken).entries

-- It stopped in the last line of this front of the text: all that the lines before it give is in the history, and the
-- history has no more than they and it give.
pub record StoppedIn (Over : Type 0) (c : Config) (text : List ℕ) (history : List Entry) (taken : List ℕ) : Type 0 where
  pub lines : EndedLines Over text taken
  pub before : IsFront (feed_entries c (whole_lines taken)).entries history
  pub within : IsFront history (feed_entries c taken).entries

-- it stopped in that line, which has ended, and the entry that did not fit is of it
pub record FullIn (Over : Type 0) (c : Config) (text : List ℕ) (history : List Entry) (taken : List ℕ) : Type 0 where
  pub stopped : StoppedIn Over c text history taken
  pub ends : LineEnded Over text taken
  pub next : length history < length (feed_entries c taken).entries

-- it stopped in that line, which has ended, and the entry whose lines could not be written is of it
pub record FaultIn (Over : Type 0) (c : Config) (text : List ℕ) (history : List Entry) (taken : List ℕ) : Type 0 where
  pub stopped : StoppedIn Over c text history taken
  pub ends : LineEnded Over text taken
  pub last : length (feed_entries c (whole_lines taken)).entries < length history

-- The lines that were taken, by why it stopped; what is behind a line outside the grammar, or behind the one that ended
-- the run, gives nothing.
abbrev pub TakenTo : Halt → Type 0 → Config → List ℕ → List Entry → List ℕ → Type 0
TakenTo (halt.Line place) Over c text history taken = taken ≡ text
TakenTo halt.Quit Over c text history taken = taken ≡ text
TakenTo halt.Full Over c text history taken = FullIn Over c text history taken
TakenTo halt.Write Over c text history taken = FaultIn Over c text history taken
TakenTo halt.NoMemory Over c text history taken = StoppedIn Over c text history taken

-- the counts are of what the lines gave that were taken
pub record CountsTo (why : Halt) (Over : Type 0) (c : Config) (text : List ℕ) (history : List Entry) (counts : List ℕ) : Type 0 where
  pub taken : List ℕ
  pub marks : TakenTo why Over c text history taken
  pub read : HaveRead c taken counts

-- where a line outside the grammar stopped it, or one that ended the run, that line has ended
abbrev pub AtLine : Halt → Type 0 → List ℕ → ℕ → Type 0
AtLine (halt.Line place) Over text number = NumberEnded Over text number
AtLine halt.Quit Over text number = NumberEnded Over text number
AtLine halt.Full Over text number = ⊤
AtLine halt.Write Over text number = ⊤
AtLine halt.NoMemory Over text number = ⊤
