-- What lines do to a durable spool, line by line, and what they print (this tool's profile, durable spool).
use Rattle.std.specs.Prelude.{◌≡◌, ℕ, Bool, true, false, List, [], ◌∷◌, ◌++◌, slice_get, Ok}
use Rattle.outside.specs.Disk.{Each}
use Rattle.spool.specs.declared.note.Note.{Note}
use Rattle.spool_format.specs.Format.{Sizes, StandsFor, changed}
use Rattle.spool_format.specs.declared.change.Change.TheVariants as change
use Rattle.notes_lines.specs.declared.line.SpoolLine.{SpoolLine}
use Rattle.notes_lines.specs.declared.line.SpoolLine.TheVariants as line
use Rattle.notes_lines.specs.Printed.{taken_line, listed}
use Rattle.notes_lines.specs.Reading.{spool_line_of}

-- where the lines stand: nothing was done to the disk that was found; it was formatted with these sizes; or the spool is open, with these
-- sizes and notes
pub data Stage : Type 0 where
  AsFound : Stage
  Formatted : Sizes → Stage
  Open : Sizes → List Note → Stage

abbrev pub is_open : Stage → Bool
is_open AsFound = false
is_open (Formatted s) = false
is_open (Open s notes) = true

-- The sizes and the notes that a line finds: those of the spool that is open; else it is opened by then, and where the disk tells, they are
-- those that its first bytes stand for, or those of a disk that was formatted.
abbrev pub Opens : Type 0 → List ℕ → Stage → Sizes → List Note → Type 0
Opens told found AsFound s notes = told → StandsFor s notes found
Opens told found (Formatted z) s notes = told → (s ≡ z) × (notes ≡ [])
Opens told found (Open z held) s notes = (s ≡ z) × (notes ≡ held)

-- what a line prints of the notes that it finds
abbrev pub prints : SpoolLine → List Note → List ℕ
prints line.Skip notes = []
prints (line.Format capacity half) notes = []
prints (line.Push overwrite note) notes = []
prints line.Take notes = taken_line (slice_get notes 0)
prints line.List notes = listed notes

-- the notes behind a line
abbrev pub behind : ℕ → SpoolLine → List Note → List Note
behind capacity line.Skip notes = notes
behind capacity (line.Format of half) notes = []
behind capacity (line.Push overwrite note) notes = changed capacity (change.Push overwrite note) notes
behind capacity line.Take notes = changed capacity change.Take notes
behind capacity line.List notes = notes

-- a line that wants the spool to be open
pub record OnOpen (told : Type 0) (found : List ℕ) (stage : Stage) (says : SpoolLine) (printed : List ℕ) (next : Stage) : Type 0 where
  pub sizes : Sizes
  pub notes : List Note
  pub opens : Opens told found stage sizes notes
  pub prints_so : printed ≡ prints says notes
  pub next_is : next ≡ Open sizes (behind sizes.capacity says notes)

-- a line leads from one stage to the next, and prints these bytes
abbrev pub Does : Type 0 → List ℕ → Stage → SpoolLine → List ℕ → Stage → Type 0
Does told found stage line.Skip printed next = (printed ≡ []) × (next ≡ stage)
Does told found stage (line.Format capacity half) printed next = (printed ≡ []) × (next ≡ Formatted (record { capacity = capacity; half = half }))
Does told found stage (line.Push overwrite note) printed next = OnOpen told found stage (line.Push overwrite note) printed next
Does told found stage line.Take printed next = OnOpen told found stage line.Take printed next
Does told found stage line.List printed next = OnOpen told found stage line.List printed next

-- these lines lead from one stage to another, and print these bytes
abbrev pub Run : Type 0 → List ℕ → Stage → List (List ℕ) → List ℕ → Stage → Type 0
Run told found stage [] printed last = (printed ≡ []) × (last ≡ stage)
Run told found stage (text ∷ texts) printed last =
    (says : SpoolLine) × (here : List ℕ) × (mid : Stage) × (more : List ℕ) × (spool_line_of (is_open stage) text ≡ Ok says)
    × Does told found stage says here mid × Run told found mid texts more last × (printed ≡ here ++ more)

-- What a crash may leave of the disk at a stage, and so what it reads as: what it might have left at first, where nothing was done; else bytes
-- that stand for the notes.
abbrev pub Holds : List ℕ → (List ℕ → Type 0) → Stage → List ℕ → (List ℕ → Type 0) → Type 0
Holds found images AsFound reads images' = (reads ≡ found) × Each images' images
Holds found images (Formatted s) reads images' = Each images' (StandsFor s [])
Holds found images (Open s notes) reads images' = Each images' (StandsFor s notes)
