-- Why a batch ends, by how it ran.
use Rattle.std.specs.Prelude.{◌≡◌, ⊤, List, length, Result, Ok, Err}
use Rattle.tool_events.specs.declared.entry.Entry.{Entry}
use Rattle.gem_model.specs.Sizes.{bytes_of}
use Rattle.run_causes.specs.declared.cause.Cause.{Cause}
use Rattle.run_causes.specs.declared.cause.Cause.TheVariants as cause
use Rattle.batching.specs.declared.batch.Stop.{Stop}
use Rattle.batching.specs.declared.batch.Stop.TheVariants as stop

-- A batch of which all was done ends when its summary is written, or could not be, or there was no memory for it; one that stopped
-- at its limits says what they hold.
abbrev pub EndsAs : Result (Unit {0}) Stop → Cause → List Entry → Type 0
EndsAs ran cause.NoMemory history = ⊤
EndsAs (Ok done) cause.Done history = ⊤
EndsAs (Ok done) cause.WriteFault history = ⊤
EndsAs (Err stop.Full) (cause.Full entries bytes input) history =
    (entries ≡ length history) × (bytes ≡ bytes_of history) × (input ≡ 0)
EndsAs _ _ history = ⊥
