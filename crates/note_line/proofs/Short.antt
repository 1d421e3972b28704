-- The text of a new note is within the limit, and with it those of all that haven't ended.
use Rattle.std.proofs.Common.{ℕ, ◌≤◌, List, [], ◌∷◌, length}
use Rattle.spool.specs.declared.note.Kind.{Kind}
use Rattle.note_line.specs.Line.{Line, standing, noted}
use Rattle.note_line.specs.Limits.{most_text, IsShort, AreShort}
use Rattle.note_line.proofs.Lists.{all_joined}
use Rattle.note_line.proofs.Rows.{noted_standing}

pub noted-short : (kind : Kind) (id : ℕ) (text : List ℕ) (l : Line) → length text ≤ most_text → AreShort l → AreShort (noted kind id text l)
noted-short kind id text l short are = rw (noted_standing kind id text l) (all_joined IsShort (standing l) (_ ∷ []) are (short, tt))
