-- What a batch did (this tool's profile, batch and statuses).
use Rattle.std.specs.Prelude.{◌≡◌, ◌⊎◌, ℕ, ◌≤◌, List, [], length, Option}
use Rattle.outside.specs.Told.{Written, WrittenFront}
use Rattle.tool_events.specs.declared.config.Config.{Config}
use Rattle.tool_events.specs.declared.entry.Entry.{Entry}
use Rattle.line_grammar.specs.Texts.{IsFront}
use Rattle.gem_model.specs.State.{opening}
use Rattle.gem_model.specs.Run.{after_all}
use Rattle.gem_model.specs.Sizes.{bytes_of}
use Rattle.history_laws.specs.Recorded.{Recorded}
use Rattle.run_causes.specs.declared.cause.Cause.{Cause}
use Rattle.run_causes.specs.declared.cause.Cause.TheVariants as cause
use Rattle.line_feeding.specs.declared.ended.SessionNote.{SessionNote}
use Rattle.driving.specs.Limits.{IsFullAt}
use Rattle.line_feeding.specs.Notes.{AreNotes}
use Rattle.batch_model.specs.Batch.{batch_entries}
use Rattle.batch_model.specs.Summary.{summary}
use Rattle.batch_model.specs.Told.{bytes_told}

-- The history is that of the batch: all of its entries, where all was done or the summary could not be written; up to an entry that
-- doesn't fit the limits; or, after want of memory, a front. By any other cause no batch ends once its configuration was read.
abbrev pub MadeBy : Config → ℕ → ℕ → Cause → List Entry → Type 0
MadeBy c seed carriers cause.Done history = history ≡ batch_entries c seed carriers
MadeBy c seed carriers cause.WriteFault history = history ≡ batch_entries c seed carriers
MadeBy c seed carriers (cause.Full entries bytes input) history =
    IsFullAt c history (batch_entries c seed carriers) × (entries ≡ length history) × (bytes ≡ bytes_of history) × (input ≡ 0)
MadeBy c seed carriers cause.NoMemory history = IsFront history (batch_entries c seed carriers)
MadeBy c seed carriers _ history = ⊥

-- Behind what was held the summary of the history is out: all of it; or, after want of memory or a write fault, a front; and nothing
-- where the batch stopped at its limits.
abbrev pub Summed : Config → ℕ → Cause → Option (List ℕ) → Option (List ℕ) → List Entry → Type 0
Summed c carriers cause.Done held held' history = Written held held' (summary c carriers history)
Summed c carriers cause.WriteFault held held' history = WrittenFront held held' (summary c carriers history)
Summed c carriers cause.NoMemory held held' history = WrittenFront held held' (summary c carriers history)
Summed c carriers (cause.Full entries bytes input) held held' history = Written held held' []
Summed c carriers _ held held' history = ⊥

-- a note for each session, with the bytes of the messages that the history has of it; after want of memory there may be none
abbrev pub Noted : Config → Cause → List Entry → List SessionNote → Type 0
Noted c why history notes = AreNotes c history (bytes_told history) notes ⊎ ((why ≡ cause.NoMemory) × (notes ≡ []))

-- what a batch of this seed and of so many carriers did under a configuration
pub record BatchedUnder (c : Config) (seed carriers : ℕ) (why : Cause) (held held' : Option (List ℕ)) (history : List Entry) (notes : List SessionNote) : Type 0 where
  -- All that is recorded holds of the history: it is a run of the tables from the first state, its notes are those that were
  -- reported, each with one fate and sent in order, and so on.
  pub recorded : Recorded c history (after_all (opening c) history)
  -- It is within the limits.
  pub entries_fit : length history ≤ c.max_entries
  pub bytes_fit : bytes_of history ≤ c.max_bytes
  -- It is that of the batch, and its summary is written, and nothing else.
  pub made : MadeBy c seed carriers why history
  pub summed : Summed c carriers why held held' history
  pub noted : Noted c why history notes
