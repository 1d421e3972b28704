-- The order of the notes in the line (this tool's profile, notes).
use Rattle.std.specs.Prelude.{◌≡◌, ◌<◌, List, [], ◌∷◌}
use Rattle.std.specs.List.{AllByRecursion}
use Rattle.spool.specs.declared.note.Note.{Note}
use Rattle.note_line.specs.Line.{Line, standing}

-- this is so of each element and each later one
abbrev pub Pairwise : {X : Type 0} → (X → X → Type 0) → List X → Type 0
Pairwise R [] = Unit {0}
Pairwise R (x ∷ xs) = AllByRecursion (R x) xs × Pairwise R xs

-- of one kind, the first note has the lesser number
abbrev pub Before : Note → Note → Type 0
Before x y = x.kind ≡ y.kind → x.number < y.number

-- of each kind the notes that haven't ended stand in the order of their numbers: the open one before those that are
-- spooled, and these before those that wait
abbrev pub InOrder : Line → Type 0
InOrder l = Pairwise Before (standing l)
