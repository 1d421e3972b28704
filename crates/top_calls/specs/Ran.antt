-- What the call `feed` did, by its words.
use Rattle.std.specs.Prelude.{◌≡◌, ◌⊎◌, ℕ, List, [], Option}
use Rattle.tool_events.specs.declared.config.Config.{Config}
use Rattle.tool_events.specs.declared.entry.Entry.{Entry}
use Rattle.run_causes.specs.declared.cause.Cause.{Cause}
use Rattle.line_feeding.specs.declared.ended.SessionNote.{SessionNote}
use Rattle.line_feeding.specs.CauseOf.{Refuses}
use Rattle.line_feeding.specs.Fed.{SourceView, IsRead, Configured, RanUnder}
use Rattle.line_feeding.specs.Going.{SinkView}
use Rattle.batching.specs.Batched.{BatchedUnder}

-- where no configuration was read to its end, nothing was read of the input
abbrev pub ReadFirst : Config → SourceView → SourceView → SourceView → SourceView → Type 0
ReadFirst c config config' input input' = IsRead config config' c ⊎ (input' ≡ input)

-- The command `feed`: it ran under the configuration that was read, which is the one that its text says; where none was read, nothing
-- happened, and the input is as it was.
abbrev pub FeedRan : Cause → SourceView → SourceView → SourceView → SourceView → SinkView → SinkView → List Entry → List SessionNote → Type 0
FeedRan why config config' input input' out out' history notes =
    (c : Config) × Configured c why config config' history × RanUnder c why input input' out.held out'.held history notes
    × ReadFirst c config config' input input'

-- no configuration was read, for this cause, and nothing happened
pub record NothingRan (why : Cause) (config config' : SourceView) (out out' : SinkView) (history : List Entry) (notes : List SessionNote) : Type 0 where
  pub why_so : Refuses why config config'
  pub history_none : history ≡ []
  pub notes_none : notes ≡ []
  pub out_stays : out' ≡ out

-- The command `batch`: it ran under the configuration that was read, which is the one that its text says; or none was read.
abbrev pub BatchRan : ℕ → ℕ → Cause → SourceView → SourceView → SinkView → SinkView → List Entry → List SessionNote → Type 0
BatchRan seed carriers why config config' out out' history notes =
    ((c : Config) × IsRead config config' c × BatchedUnder c seed carriers why out.held out'.held history notes)
    ⊎ NothingRan why config config' out out' history notes

-- nothing was read, nothing happened, and nothing was written
pub record Untouched (config config' input input' : SourceView) (out out' : SinkView) (history : List Entry) (notes : List SessionNote) : Type 0 where
  pub config_stays : config' ≡ config
  pub input_stays : input' ≡ input
  pub out_stays : out' ≡ out
  pub history_none : history ≡ []
  pub notes_none : notes ≡ []
