-- Which words are refused as the command `notes FILE`.
use Rattle.std.specs.Prelude.{ℕ, List, [], ◌∷◌, Option}
use Rattle.program_words.specs.Commands.{notes_places, refused_by}

-- the place at which words are refused (this tool's profile, the program's words)
abbrev pub notes_refused_at : List (List ℕ) → Option ℕ
notes_refused_at words = refused_by (notes_places ∷ []) words
