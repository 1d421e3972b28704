-- The lines of a source, as they are read (this tool's profile, input lines).
use Rattle.std.specs.Prelude.{◌≡◌, ◌≢◌, ℕ, ◌+◌, ◌<◌, ◌≤◌, ⊤, true, false, List, [], ◌∷◌, ◌++◌, length, Option, Some, None, Bool, Result, Ok, Err}
use Rattle.text_lines.specs.Lines.{IsOneLine}
use Rattle.outside.specs.Counts.{Rose}
use Rattle.outside.specs.Told.{Taken, NothingLeft}
use Rattle.line_grammar.specs.Reading.{line_bytes}
use Rattle.source_lines.specs.Limits.{source_bytes}
use Rattle.source_lines.specs.declared.no_line.NoLine.{NoLine}
use Rattle.source_lines.specs.declared.no_line.NoLine.TheVariants as no_line

-- a reader of the lines of a source (this tool's profile, input lines)
pub record LinesRead : Type 0 where
  -- the line that was given last, or what came of one that isn't whole
  pub line : List ℕ
  -- what was read behind it
  pub kept : List ℕ
  -- how many bytes were read at all
  pub count : ℕ

-- what a source tells: the bytes that it has left, where it tells them, how often it failed, and how often it ended
pub record SourceTold : Type 0 where
  pub left : Option (List ℕ)
  pub faults : ℕ
  pub ends : ℕ

-- what this source tells
abbrev pub source_told : {S : Type 0} → (S → Option (List ℕ)) → (S → ℕ) → (S → ℕ) → S → SourceTold
source_told left faults ends source = record { left = left source; faults = faults source; ends = ends source }

-- ---- what is done with the bytes that are kept

-- these bytes, of which none is a line feed, went from the front of what is kept behind the line
pub record Joined (part : List ℕ) (old new : LinesRead) : Type 0 where
  pub one : IsOneLine part
  pub line : new.line ≡ old.line ++ part
  pub fits : length old.line ≤ line_bytes → length new.line ≤ line_bytes
  pub count : new.count ≡ old.count

-- What is kept goes to the line: true, up to its first line feed, which is dropped, and the line is whole; false, all of it,
-- which has none. Or the line would be too long, or there was no memory.
abbrev pub TakesKept : LinesRead → LinesRead → Result Bool NoLine → Type 0
TakesKept old new (Ok true) = (part : List ℕ) × Joined part old new × (old.kept ≡ part ++ 10 ∷ new.kept)
TakesKept old new (Ok false) = Joined old.kept old new × (new.kept ≡ [])
TakesKept old new (Err no_line.Long) =
    (new.count ≡ old.count) × (part : List ℕ) × (behind : List ℕ) × (old.kept ≡ part ++ behind) × IsOneLine part
    × (line_bytes < length old.line + length part)
TakesKept old new (Err no_line.NoMemory) = new.count ≡ old.count
TakesKept old new (Err _) = ⊥

-- ---- what a read does

-- what a read of the source told of it, where it gave these bytes
pub record ReadOf (bytes : List ℕ) (source source' : SourceTold) : Type 0 where
  pub taken : Taken source.left source'.left bytes
  pub faults : source'.faults ≡ source.faults
  pub ends : source.ends ≤ source'.ends

-- nothing is left, where what was left was told before
abbrev pub NothingLeftOf : Option (List ℕ) → Option (List ℕ) → Type 0
NothingLeftOf None left' = ⊤
NothingLeftOf (Some bytes) left' = NothingLeft left'

-- no more follows
abbrev pub IsOver : SourceTold → SourceTold → Type 0
IsOver source source' = NothingLeftOf source.left source'.left × Rose source.ends source'.ends

-- A read, where nothing is kept: the next bytes are kept; or the source is over, the read failed, or so many bytes were read
-- that none is read any more.
abbrev pub ReadsPiece : LinesRead → LinesRead → SourceTold → SourceTold → Result (Unit {0}) NoLine → Type 0
ReadsPiece old new source source' (Ok done) =
    ReadOf new.kept source source' × (new.count ≡ old.count + length new.kept) × (0 < length new.kept) × (new.count ≤ source_bytes)
ReadsPiece old new source source' (Err no_line.End) =
    ReadOf [] source source' × (new.count ≡ old.count) × IsOver source source'
ReadsPiece old new source source' (Err no_line.Fault) =
    (source'.left ≡ source.left) × (new.count ≡ old.count) × Rose source.faults source'.faults × (source.ends ≤ source'.ends)
ReadsPiece old new source source' (Err no_line.Bound) =
    (source' ≡ source) × (new.count ≡ old.count) × (new.count ≡ source_bytes)
ReadsPiece old new source source' (Err _) = ⊥

-- ---- the next line

-- what came of a line that isn't whole: all of these bytes
pub record IsPart (bytes : List ℕ) (new : LinesRead) : Type 0 where
  pub line : new.line ≡ bytes
  pub one : IsOneLine bytes
  pub fits : length bytes ≤ line_bytes

-- What of these bytes was given as the next line: what comes before their first line feed; or why none was.
abbrev pub GivesLine : List ℕ → LinesRead → SourceTold → SourceTold → Result (Unit {0}) NoLine → Type 0
GivesLine bytes new source source' (Ok done) =
    (bytes ≡ new.line ++ 10 ∷ new.kept) × IsOneLine new.line × (length new.line ≤ line_bytes)
GivesLine bytes new source source' (Err no_line.End) = IsPart bytes new × IsOver source source'
GivesLine bytes new source source' (Err no_line.Fault) = IsPart bytes new × Rose source.faults source'.faults
GivesLine bytes new source source' (Err no_line.Bound) = IsPart bytes new × (new.count ≡ source_bytes)
GivesLine bytes new source source' (Err no_line.Long) =
    (part : List ℕ) × (behind : List ℕ) × (bytes ≡ part ++ behind) × IsOneLine part × (line_bytes < length part)
GivesLine bytes new source source' (Err no_line.NoMemory) = ⊤

-- The next line was asked for: what was kept and what was read more are its bytes.
pub record NextLine (old new : LinesRead) (source source' : SourceTold) (result : Result (Unit {0}) NoLine) : Type 0 where
  pub more : List ℕ
  pub taken : Taken source.left source'.left more
  pub count : new.count ≡ old.count + length more
  pub within : new.count ≤ source_bytes
  pub unfailed : result ≢ Err no_line.Fault → source'.faults ≡ source.faults
  pub ends_stay : source.ends ≤ source'.ends
  pub gives : GivesLine (old.kept ++ more) new source source' result
