use Rattle.std.proofs.Common.{◌≡◌, ℕ, suc, ◌<◌, length, Some, slice_get}
use Rattle.line_feeding.specs.Reads.{AreCounts}
use Rattle.line_feeding.specs.Notes.{note_of}
use Rattle.feeding.proofs.notes.session_notes.Given as goal

-- the sessions before this one have their notes
abbrev pub invariant-loop-session : goal.invariant-loop-session
invariant-loop-session g l = record {
  count : length l.notes.items ≡ l.session;
  each : (read : ℕ → ℕ) → AreCounts l.reads read → (k : ℕ) → k < length l.notes.items → slice_get l.notes.items k ≡ Some (note_of (g.C.Recorder.view l.core).config (g.C.Recorder.view l.core).history read (suc k));
}
