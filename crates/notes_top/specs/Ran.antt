-- What a run of `notes` did, by how it ended (this tool's profile, durable spool).
use Rattle.std.specs.Prelude.{◌≡◌, ◌⊎◌, ℕ, ◌+◌, ◌<◌, Bool, true, false, List, ◌∷◌, ◌++◌, length, Option, Result, Ok, Err}
use Rattle.outside.specs.Counts.{Rose}
use Rattle.outside.specs.Told.{Taken, Written, WrittenFront, Whole}
use Rattle.text_lines.specs.Lines.{IsOneLine, lines_of, whole_lines}
use Rattle.source_lines.specs.Limits.{source_bytes}
use Rattle.source_lines.specs.Reads.{SourceTold}
use Rattle.line_grammar.specs.Reading.{line_bytes}
use Rattle.run_causes.specs.declared.cause.Cause.{Cause}
use Rattle.run_causes.specs.declared.cause.Cause.TheVariants as cause
use Rattle.spool_format.specs.Unread.{IsUnread}
use Rattle.notes_lines.specs.declared.line.SpoolLine.{SpoolLine}
use Rattle.notes_lines.specs.Reading.{spool_line_of}
use Rattle.notes_top.specs.Keeping.{DiskAt, Broken}
use Rattle.notes_top.specs.Stages.{Stage, AsFound, is_open, Does, Run}

-- these whole lines stand at the front of the text, and these bytes behind them
pub record Splits (text : List ℕ) (done : List (List ℕ)) (behind : List ℕ) : Type 0 where
  pub whole : List ℕ
  pub text_is : text ≡ whole ++ behind
  pub ended : whole_lines whole ≡ whole
  pub done_are : lines_of whole ≡ done

-- the input was read to its end, and this is all that it had
abbrev pub IsOver : SourceTold → SourceTold → List ℕ → Type 0
IsOver input input' text = Whole input.left text × Rose input.ends input'.ends

-- this is the next line of the bytes: its line feed follows, or it is too long already, or no more follows
abbrev pub IsNext : Type 0 → List ℕ → List ℕ → Type 0
IsNext Over behind line =
    IsOneLine line
    × (((rest : List ℕ) × (behind ≡ line ++ 10 ∷ rest)) ⊎ (((rest : List ℕ) × (behind ≡ line ++ rest) × (line_bytes < length line)) ⊎ ((behind ≡ line) × Over)))

-- behind these whole lines it is the line that was in work, which says so
pub record InWork (Over : Type 0) (text : List ℕ) (done : List (List ℕ)) (stage : Stage) (says : Result SpoolLine ℕ) : Type 0 where
  pub behind : List ℕ
  pub splits : Splits text done behind
  pub line : List ℕ
  pub next : IsNext Over behind line
  pub is : spool_line_of (is_open stage) line ≡ says

-- what was read of the input, the lines of it that were done, what they print, and the stage to which they lead
pub record Doing : Type 0 where
  pub text : List ℕ
  pub done : List (List ℕ)
  pub printed : List ℕ
  pub stage : Stage

-- all whole lines were done, and what stands behind them is no whole line
abbrev pub WholeDone : Doing → Type 0
WholeDone d = (behind : List ℕ) × Splits d.text d.done behind × IsOneLine behind

module _ {D : Type 0} (tells : D → Bool) (reads : D → List ℕ) (leaves : D → List ℕ → Type 0) (faults : D → ℕ) where
  -- what was written, and what the disk that is handed back holds, where no line was in work: what these lines print and lead to
  pub record Stays (d : Doing) (held held' : Option (List ℕ)) (first last : D) : Type 0 where
    pub written : Written held held' d.printed
    pub disk : DiskAt tells reads leaves faults first d.stage last

  -- a line that prints such bytes could not be written whole
  pub record Unwritten (Over : Type 0) (d : Doing) (held held' : Option (List ℕ)) (first : D) (next : Stage) : Type 0 where
    pub says : SpoolLine
    pub work : InWork Over d.text d.done d.stage (Ok says)
    pub more : List ℕ
    pub does : Does (tells first ≡ true) (reads first) d.stage says more next
    pub front : WrittenFront held held' (d.printed ++ more)

  -- how it ended: at the end of the input; where a read failed; at the bound of the input; at a line that is refused; where a write failed in
  -- what the line in work prints; for want of memory; where the disk failed in the line in work; or where the disk is no spool
  abbrev pub Ends : Cause → Type 0 → Doing → SourceTold → SourceTold → Option (List ℕ) → Option (List ℕ) → D → D → Type 0
  Ends cause.Done Over d input input' held held' first last = (lines_of d.text ≡ d.done) × Over × Stays d held held' first last
  Ends cause.ReadFault Over d input input' held held' first last = WholeDone d × Rose input.faults input'.faults × Stays d held held' first last
  Ends (cause.Full entries bytes count) Over d input input' held held' first last =
      WholeDone d × (length d.text ≡ source_bytes) × (entries ≡ 0) × (bytes ≡ 0) × (count ≡ length d.text) × Stays d held held' first last
  Ends (cause.Line number place) Over d input input' held held' first last =
      InWork Over d.text d.done d.stage (Err place) × (number ≡ length d.done + 1) × Stays d held held' first last
  Ends cause.WriteFault Over d input input' held held' first last =
      (next : Stage) × Unwritten Over d held held' first next × DiskAt tells reads leaves faults first next last
  Ends cause.NoMemory Over d input input' held held' first last =
      ((behind : List ℕ) × Splits d.text d.done behind) × DiskAt tells reads leaves faults first d.stage last
      × (Written held held' d.printed ⊎ ((next : Stage) × Unwritten Over d held held' first next))
  Ends cause.Disk Over d input input' held held' first last =
      (says : SpoolLine) × InWork Over d.text d.done d.stage (Ok says) × Written held held' d.printed × Rose (faults first) (faults last)
      × Broken tells reads leaves faults first d.stage says last
  Ends (cause.Unread place) Over d input input' held held' first last =
      (says : SpoolLine) × InWork Over d.text d.done d.stage (Ok says) × (is_open d.stage ≡ false) × Stays d held held' first last
      × (tells first ≡ true → IsUnread (reads first) place)
  Ends _ Over d input input' held held' first last = ⊥

  -- A run of `notes`: the lines of what was read of the input were done, one after another, up to the cause of its end.
  pub record NotesRan (why : Cause) (input input' : SourceTold) (held held' : Option (List ℕ)) (first last : D) : Type 0 where
    pub did : Doing
    pub taken : Taken input.left input'.left did.text
    pub run : Run (tells first ≡ true) (reads first) AsFound did.done did.printed did.stage
    pub ends : Ends why (IsOver input input' did.text) did input input' held held' first last
