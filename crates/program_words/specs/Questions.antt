-- What the program tells of itself (this tool's profile, the program's words).
use Rattle.std.specs.Prelude.{ℕ, if◌then◌else◌, List, [], ◌∷◌, codes, Option, Some, None}
use Rattle.std.specs.Str.{bytes_eq}
use Rattle.program_words.specs.declared.usage.Question.{Question}
use Rattle.program_words.specs.declared.usage.Question.TheVariants as what

-- the one word asks for a text: `--help` or `--version`
abbrev pub question_of : List ℕ → Option Question
question_of word = if bytes_eq word (codes "--help") then Some what.Help else if bytes_eq word (codes "--version") then Some what.Version else None

-- what the words ask for, where they are that one word alone
abbrev pub question_asked : List (List ℕ) → Option Question
question_asked [] = None
question_asked (word ∷ []) = question_of word
question_asked (word ∷ other ∷ words) = None
