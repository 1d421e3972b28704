-- Where the reader of lines stands.
use Rattle.std.specs.Prelude.{◌≡◌, ◌⊎◌, ℕ, true, Result, Ok, Err, OnOk}
use Rattle.hsms_frame.specs.Cut.{Kept, IsCutOf, arrivals_of}
use Rattle.gem_model.specs.State.{is_up}
use Rattle.line_grammar.specs.declared.line.Line.{Line}
use Rattle.gem_model.specs.Feed.{Reading, line_given, reading_after}
use Rattle.tool_events.specs.Sizes.{text_bytes}
use Rattle.history_parts.specs.CoreView.{CoreView}
use Rattle.line_feeding.specs.declared.halt.Halt.{Halt}
use Rattle.line_feeding.specs.declared.halt.Halt.TheVariants as halt
use Rattle.feeding.specs.Views.{FeederView}
use Rattle.line_feeding.specs.Going.{SinkView, Goes}
use Rattle.line_feeding.specs.Quitting.{told_of}
use Rattle.line_feeding.specs.Reads.{CountsLine}

-- the core is in the state of the reading, and where a session is up the cutter has cut its bytes
pub record IsReading (r : Reading) (core : CoreView) (cutter : Kept) : Type 0 where
  pub state : core.state ≡ r.state
  pub max : is_up r.state ≡ true → cutter.max ≡ text_bytes
  pub cut : is_up r.state ≡ true → IsCutOf r.stream (arrivals_of text_bytes r.stream) cutter

-- From this reading the line is taken: what it gives, the reading after it, and the counts of what came.
pub record TakesLine (r : Reading) (line : Line) (old new : FeederView) (out out' : SinkView) (result : Result (Unit {0}) Halt) : Type 0 where
  pub goes : Goes old.core new.core out out' (line_given r line) result
  pub reading : OnOk result (IsReading (reading_after r line) new.core new.cutter)
  pub counts : CountsLine r line old.reads new.reads old.core new.core result

-- A line that leaves the grammar at this place is refused, or there was no memory to read it; nothing has changed.
pub record RefusesLine (place : ℕ) (old new : FeederView) (out out' : SinkView) (result : Result (Unit {0}) Halt) : Type 0 where
  pub refused : (result ≡ Err (halt.Line place)) ⊎ (result ≡ Err halt.NoMemory)
  pub core_stays : new.core ≡ old.core
  pub reads_stay : new.reads ≡ old.reads
  pub out_stays : out' ≡ out

-- what is done with a line, by what it says
abbrev pub TreatsLine : Reading → Result Line ℕ → FeederView → FeederView → SinkView → SinkView → Result (Unit {0}) Halt → Type 0
TreatsLine r (Err place) old new out out' result = RefusesLine place old new out out' result
TreatsLine r (Ok line) old new out out' result =
    (taken : Result (Unit {0}) Halt) × (result ≡ told_of line taken) × TakesLine r line old new out out' taken
