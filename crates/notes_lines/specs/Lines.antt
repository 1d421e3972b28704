-- The lines of the command `notes`, as the profile prints them (this tool's profile, durable spool).
use Rattle.std.specs.Prelude.{ℕ, Bool, true, false, codes, if◌then◌else◌, List}
use Rattle.line_grammar.specs.Words.{number, hex}
use Rattle.line_grammar.specs.Grammar.{Grammar, gives, anything, last, literal, word, says, ◌or◌, ◌>>=◌, ◌>>◌}
use Rattle.spool.specs.declared.note.Kind.{Kind}
use Rattle.spool.specs.declared.note.Kind.TheVariants.{Event, Alarm}
use Rattle.notes_lines.specs.declared.line.SpoolLine.{SpoolLine}
use Rattle.notes_lines.specs.declared.line.SpoolLine.TheVariants as line

-- the greatest number of a note, and the greatest size of a half in a line
abbrev pub most_64 : ℕ
most_64 = 18446744073709551615

-- the greatest id of a note, and the greatest capacity in a line
abbrev pub most_32 : ℕ
most_32 = 4294967295

-- the empty line, and `#` and anything behind it, which say nothing
unfoldable pub skipped_line : Grammar SpoolLine
skipped_line = gives line.Skip or (literal (codes "#") >> anything line.Skip)

-- `format CAPACITY HALF`
unfoldable pub format_line : Grammar SpoolLine
format_line = do
  literal (codes "format ")
  capacity ← word (number most_32)
  last (number most_64) (λ half. line.Format capacity half)

-- `ID HEX`, the last words of a push: the id of the note, and its text
unfoldable pub id_words : Bool → ℕ → Kind → Grammar SpoolLine
id_words overwrite n kind = do
  id ← word (number most_32)
  last hex (λ text. line.Push overwrite (record { number = n; kind = kind; id = id; text = text }))

-- `event ID HEX` and `alarm ID HEX`: what the note reports
unfoldable pub kind_words : Bool → ℕ → Grammar SpoolLine
kind_words overwrite n = (literal (codes "event ") >> id_words overwrite n Event) or (literal (codes "alarm ") >> id_words overwrite n Alarm)

-- the words of a push behind `keep` or `over`: the number of the note, and the rest of it
unfoldable pub number_words : Bool → Grammar SpoolLine
number_words overwrite = do
  n ← word (number most_64)
  kind_words overwrite n

-- `push keep N KIND ID HEX` and `push over N KIND ID HEX`
unfoldable pub push_line : Grammar SpoolLine
push_line = (literal (codes "push keep ") >> number_words false) or (literal (codes "push over ") >> number_words true)

-- `take` and `list`
unfoldable pub short_lines : Grammar SpoolLine
short_lines = says (codes "take") line.Take or says (codes "list") line.List

-- the lines once the spool is open
unfoldable pub open_lines : Grammar SpoolLine
open_lines = skipped_line or short_lines or push_line

-- the lines before that
unfoldable pub first_lines : Grammar SpoolLine
first_lines = open_lines or format_line

-- the lines, by whether the spool is open
abbrev pub spool_lines : Bool → Grammar SpoolLine
spool_lines is_open = if is_open then open_lines else first_lines
