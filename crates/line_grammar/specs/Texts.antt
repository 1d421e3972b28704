-- Which lines of a text have ended (this tool's profile, input lines).
use Rattle.std.specs.Prelude.{◌≡◌, ◌⊎◌, ℕ, ◌<◌, Bool, true, false, List, ◌∷◌, ◌++◌, length}
use Rattle.text_lines.specs.Lines.{lines_of, whole_lines}
use Rattle.tool_events.specs.declared.event.OperCmd.TheVariants as oper
use Rattle.line_grammar.specs.Reading.{line_bytes}
use Rattle.line_grammar.specs.declared.line.Line.{Line}
use Rattle.line_grammar.specs.declared.line.Line.TheVariants as line

-- the whole begins with the front
pub record IsFront {A : Type 0} (front whole : List A) : Type 0 where
  pub behind : List A
  pub joined : whole ≡ front ++ behind

-- ---- which lines of a text have ended; Over says of the text that no more follows it

-- the last line of this front of the text is too long already, whatever follows it
pub record IsLong (text taken : List ℕ) : Type 0 where
  pub front : IsFront taken text
  pub line : List ℕ
  pub is : taken ≡ whole_lines taken ++ line
  pub long : line_bytes < length line

-- The last line of this front of the text has ended: its line feed follows; or it is too long already; or the front is the
-- text, and no more follows.
abbrev pub LineEnded : Type 0 → List ℕ → List ℕ → Type 0
LineEnded Over text taken =
    ((behind : List ℕ) × (text ≡ taken ++ 10 ∷ behind)) ⊎ (IsLong text taken ⊎ ((taken ≡ text) × Over))

-- the line of this number, counted from 1, has ended
abbrev pub NumberEnded : Type 0 → List ℕ → ℕ → Type 0
NumberEnded Over text number = (taken : List ℕ) × LineEnded Over text taken × (length (lines_of taken) ≡ number)

-- no line is taken in part: this front of the text is whole lines, or its last line has ended
pub record EndedLines (Over : Type 0) (text taken : List ℕ) : Type 0 where
  pub front : IsFront taken text
  pub ends : (taken ≡ whole_lines taken) ⊎ LineEnded Over text taken

-- ---- which line ends a run

-- the line ends the run: `O quit` (this tool's profile, operator words)
abbrev pub is_quit : Line → Bool
is_quit (line.Oper oper.Quit) = true
is_quit _ = false
