-- What contracts see of the one that takes the lines and of the reader of a text, whichever core they drive.
use Rattle.std.specs.Prelude.{ℕ, List}
use Rattle.hsms_frame.specs.Cut.{Kept}
use Rattle.history_parts.specs.CoreView.{CoreView}
use Rattle.feeding.specs.declared.feeder.Feeder.{Feeder}
use Rattle.feeding.specs.declared.reader.Reader.{Reader}

-- the core, what the cutter keeps, and the bytes that came in each session
pub record FeederView : Type 0 where
  pub core : CoreView
  pub cutter : Kept
  pub reads : List ℕ

-- that, what came of the line that isn't whole, and that line's number
pub record ReaderView : Type 0 where
  pub feeder : FeederView
  pub line : List ℕ
  pub number : ℕ

abbrev pub feeder_seen : {C : Type 0} → (C → CoreView) → Feeder C → FeederView
feeder_seen view feeder = record { core = view feeder.core; cutter = feeder.cutter; reads = feeder.reads }

abbrev pub reader_seen : {C : Type 0} → (C → CoreView) → Reader C → ReaderView
reader_seen view reader = record { feeder = feeder_seen view reader.feeder; line = reader.line.items; number = reader.number }
