-- What a line says, computed. The law that this is exactly what the grammar relates stands in `laws`; the grammar is the
-- meaning, and public calls that read lines are stated by it.
-- A place is told by what is left of the whole line, whose length is `total`.
use Rattle.std.specs.Prelude.{◌≡◌, ℕ, ◌+◌, ◌*◌, ◌-◌, ◌&&◌, ◌==◌, nat_lt, nat_le, max, if◌then◌else◌, List, [], ◌∷◌, ◌++◌, length, take, drop, Option, Some, None, Result, Ok, Err}
use Rattle.std.specs.List.{position}
use Rattle.std.specs.Char.{is_ascii_digit}
use Rattle.line_grammar.specs.Words.{Word, number, run, hex, Value, least, most, has, hex_digit}
use Rattle.line_grammar.specs.Grammar.{literal, word, Grammar, gives, anything, last, part, either}
use Rattle.line_grammar.specs.Lines.{feed_lines, script_lines}
use Rattle.line_grammar.specs.declared.kind.WordKind.{WordKind}
use Rattle.line_grammar.specs.declared.line.Line.{Line}
use Rattle.line_grammar.specs.declared.line.LineFault.{LineFault}
use Rattle.line_grammar.specs.declared.line.LineFault.TheVariants as fault

-- one reading after another, up to a fault
infixl 10 ◌>>=◌
abbrev pub ◌>>=◌ : {A B : Type 0} → Result A ℕ → (A → Result B ℕ) → Result B ℕ
(Ok x) >>= f = f x
(Err e) >>= f = Err e

-- the end of the line
unfoldable pub end_at : ℕ → List ℕ → Result (Unit {0}) ℕ
end_at total [] = Ok tt
end_at total (b ∷ bs) = Err (total - length (b ∷ bs))

-- the line behind these very bytes
unfoldable pub literal_at : List ℕ → ℕ → List ℕ → Result (List ℕ) ℕ
literal_at [] total text = Ok text
literal_at (b ∷ bs) total [] = Err total
literal_at (b ∷ bs) total (c ∷ cs) = if c == b then literal_at bs total cs else Err (total - length (c ∷ cs))

-- what stands before a place, all of the text where there is none
abbrev pub up_to : Option ℕ → List ℕ → List ℕ
up_to None text = text
up_to (Some i) text = take i text

-- what stands from the space on
abbrev pub from : Option ℕ → List ℕ → List ℕ
from None text = []
from (Some i) text = drop i text

-- the text before its first space
unfoldable pub before_space : List ℕ → List ℕ
before_space text = up_to (position (λ b. b == 32) text) text

-- the text from its first space on
unfoldable pub from_space : List ℕ → List ℕ
from_space text = from (position (λ b. b == 32) text) text

-- a number of which digits that stand for n have been read
unfoldable pub digits_at : ℕ → ℕ → ℕ → List ℕ → Result ℕ ℕ
digits_at top total n [] = Ok n
digits_at top total n (b ∷ bs) =
    if is_ascii_digit b && nat_lt 0 n && nat_le (10 * n + (b - 48)) top then digits_at top total (10 * n + (b - 48)) bs
    else Err (total - length (b ∷ bs))

-- a number up to a greatest
unfoldable pub number_at : ℕ → ℕ → List ℕ → Result ℕ ℕ
number_at top total [] = Err total
number_at top total (b ∷ bs) =
    if is_ascii_digit b && nat_le (b - 48) top then digits_at top total (b - 48) bs else Err (total - length (b ∷ bs))

-- a run of bytes that names something, of which so many bytes have been read
unfoldable pub run_at : WordKind → ℕ → ℕ → List ℕ → Result (Unit {0}) ℕ
run_at k total count [] = if nat_lt count (least k) then Err total else Ok tt
run_at k total count (b ∷ bs) =
    if has k b && nat_lt count (most k) then run_at k total (count + 1) bs else Err (total - length (b ∷ bs))

-- a byte, where the second digit is one
abbrev pub low_at : ℕ → ℕ → Option ℕ → Result ℕ ℕ
low_at place high None = Err place
low_at place high (Some low) = Ok (16 * high + low)

-- a byte, where the first digit is one
abbrev pub pair_at : ℕ → ℕ → Option ℕ → Result ℕ ℕ
pair_at place b None = Err place
pair_at place b (Some high) = low_at (place + 1) high (hex_digit b)

-- one digit without a second
abbrev pub half_at : ℕ → Option ℕ → Result (List ℕ) ℕ
half_at total None = Err (total - 1)
half_at total (Some high) = Err total

-- pairs of hex digits
unfoldable pub pairs_at : ℕ → List ℕ → Result (List ℕ) ℕ
pairs_at total [] = Ok []
pairs_at total (a ∷ []) = half_at total (hex_digit a)
pairs_at total (a ∷ b ∷ bs) = pair_at (total - length (a ∷ b ∷ bs)) b (hex_digit a) >>= λ byte. pairs_at total bs >>= λ bytes. Ok (byte ∷ bytes)

-- the same, behind bytes that have been read
abbrev pub pairs_behind : List ℕ → ℕ → List ℕ → Result (List ℕ) ℕ
pairs_behind front total text = pairs_at total text >>= λ bytes. Ok (front ++ bytes)

-- hex digits, at least two
unfoldable pub hex_at : ℕ → List ℕ → Result (List ℕ) ℕ
hex_at total [] = Err total
hex_at total (a ∷ bs) = pairs_at total (a ∷ bs)

-- a word, of all the text
abbrev pub word_at : (w : Word) → ℕ → List ℕ → Result (Value w) ℕ
word_at (number top) total text = number_at top total text
word_at (run k) total text = run_at k total 0 text >>= λ done. Ok text
word_at hex total text = hex_at total text

-- the farther of two places
abbrev pub either_of : {V : Type 0} → Result V ℕ → Result V ℕ → Result V ℕ
either_of (Ok x) b = Ok x
either_of (Err p) (Ok y) = Ok y
either_of (Err p) (Err q) = Err (max p q)

-- what a grammar's line says, or the place at which the text leaves it
abbrev pub read : {V : Type 0} → Grammar V → ℕ → List ℕ → Result V ℕ
read (gives v) total text = end_at total text >>= λ done. Ok v
read (anything v) total text = Ok v
read (last w f) total text = word_at w total text >>= λ v. Ok (f v)
read (part (literal t) k) total text = literal_at t total text >>= λ rest. read (k tt) total rest
read (part (word w) k) total text =
    word_at w (total - length (from_space text)) (before_space text) >>= λ v. literal_at (32 ∷ []) total (from_space text) >>= λ rest. read (k v) total rest
read (either a b) total text = either_of (read a total text) (read b total text)

-- what a reader returned is what is read, unless memory ran out
abbrev pub Gives : {V : Type 0} → Result V LineFault → Result V ℕ → Type 0
Gives (Ok x) r = r ≡ Ok x
Gives (Err (fault.Place p)) r = r ≡ Err p
Gives (Err fault.NoMemory) r = Unit {0}

-- the greatest line, in bytes (this tool's profile, limits)
abbrev pub line_bytes : ℕ
line_bytes = 600000

-- what a line says to `feed`, or the place at which it leaves the lines that `feed` takes; a line that is too long leaves at
-- the limit, whatever it holds (this tool's profile, input lines and refused lines)
unfoldable pub feed_line_of : List ℕ → Result Line ℕ
feed_line_of line = if nat_lt line_bytes (length line) then Err line_bytes else read feed_lines (length line) line

-- what a line says in a script, or the place at which it leaves the lines that a script has; a line that is too long leaves at
-- the limit, whatever it holds (this tool's profile, scripts and refused lines)
unfoldable pub script_line_of : List ℕ → Result Line ℕ
script_line_of line = if nat_lt line_bytes (length line) then Err line_bytes else read script_lines (length line) line
