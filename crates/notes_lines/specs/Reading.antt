-- What a line says to a durable spool, or the place at which it is refused (this tool's profile, durable spool).
use Rattle.std.specs.Prelude.{ℕ, ◌+◌, ◌*◌, ◌-◌, ◌^◌, ◌≤◌, ◌&&◌, Bool, nat_lt, nat_le, if◌then◌else◌, List, length, take, drop, Result, Ok, Err}
use Rattle.line_grammar.specs.Reading.{read, line_bytes, from_space, ◌>>=◌}
use Rattle.spool.specs.declared.note.Note.{Note}
use Rattle.spool.specs.Limits.{most_capacity}
use Rattle.spool_format.specs.Format.{IsSize}
use Rattle.notes_lines.specs.Lines.{spool_lines}
use Rattle.notes_lines.specs.declared.line.SpoolLine.{SpoolLine}
use Rattle.notes_lines.specs.declared.line.SpoolLine.TheVariants as line

-- ---- the text of a note

-- what stands behind the first space, and nothing where there is none
abbrev pub behind_space : List ℕ → List ℕ
behind_space text = drop 1 (from_space text)

-- what stands behind the fifth space of a line: of a push the text of its note
abbrev pub text_word : List ℕ → List ℕ
text_word line = behind_space (behind_space (behind_space (behind_space (behind_space line))))

-- a text has at most so many bytes
abbrev pub text_bytes : ℕ
text_bytes = 87000

-- how many digits of a text are too many
abbrev pub excess : List ℕ → ℕ
excess line = length (text_word line) - 2 * text_bytes

-- the line without them
abbrev pub without_excess : List ℕ → List ℕ
without_excess line = take (length line - excess line) line

-- the text is within the limit, and none of its digits is too many
abbrev pub is_within : List ℕ → Note → Bool
is_within line note = nat_le (length note.text) text_bytes && nat_lt (excess line) 1

-- ---- the sizes of a disk

abbrev pub may_be_capacity : ℕ → Bool
may_be_capacity capacity = nat_le 1 capacity && nat_le capacity most_capacity

-- a half for so many notes may have so many bytes
abbrev pub may_be_half : ℕ → ℕ → Bool
may_be_half capacity half = nat_le ((capacity + 1) * 87020 + 1) half && nat_lt half (2 ^ 40)

-- where the first size stands in a line, behind `format `, and where the second does
abbrev pub capacity_place : ℕ
capacity_place = 7

abbrev pub half_place : List ℕ → ℕ
half_place line = length line - length (behind_space (behind_space line))

-- ---- the line

-- a line that is well formed: of one with a size that no disk has the place is the first byte of that, and of a push with too long a
-- text the first digit that is too many
abbrev pub in_bounds : List ℕ → SpoolLine → Result SpoolLine ℕ
in_bounds text line.Skip = Ok line.Skip
in_bounds text (line.Format capacity half) =
    if may_be_capacity capacity then (if may_be_half capacity half then Ok (line.Format capacity half) else Err (half_place text)) else Err capacity_place
in_bounds text (line.Push overwrite note) = if is_within text note then Ok (line.Push overwrite note) else Err (length text - excess text)
in_bounds text line.Take = Ok line.Take
in_bounds text line.List = Ok line.List

-- a disk may have the sizes, and the text of the note is within the limit
abbrev pub CanBeDone : SpoolLine → Type 0
CanBeDone line.Skip = Unit {0}
CanBeDone (line.Format capacity half) = IsSize (record { capacity = capacity; half = half })
CanBeDone (line.Push overwrite note) = length note.text ≤ text_bytes
CanBeDone line.Take = Unit {0}
CanBeDone line.List = Unit {0}

-- What a line says, by whether the spool is open, or the place at which it leaves the lines; one that is too long leaves them at the limit,
-- whatever it holds.
unfoldable pub spool_line_of : Bool → List ℕ → Result SpoolLine ℕ
spool_line_of is_open text =
    if nat_lt line_bytes (length text) then Err line_bytes
    else (read (spool_lines is_open) (length (without_excess text)) (without_excess text) >>= in_bounds text)
