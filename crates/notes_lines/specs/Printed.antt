-- How notes are printed (this tool's profile, durable spool).
use Rattle.std.specs.Prelude.{ℕ, List, ◌++◌, codes, Option, Some, None}
use Rattle.std.specs.List.{flat_map}
use Rattle.std.specs.Fmt.{decimal}
use Rattle.hex.specs.Hex.{encode_upper}
use Rattle.line_grammar.specs.OutLines.{ended_line}
use Rattle.spool.specs.declared.note.Note.{Note}
use Rattle.spool.specs.declared.note.Kind.{Kind}
use Rattle.spool.specs.declared.note.Kind.TheVariants.{Event, Alarm}

abbrev pub kind_word : Kind → List ℕ
kind_word Event = codes "event"
kind_word Alarm = codes "alarm"

-- `N KIND ID HEX`: a note, its text in upper case
abbrev pub note_line : Note → List ℕ
note_line note = ended_line (decimal note.number ++ codes " " ++ kind_word note.kind ++ codes " " ++ decimal note.id ++ codes " " ++ encode_upper note.text)

-- the note that was taken, or `none`
abbrev pub taken_line : Option Note → List ℕ
taken_line None = ended_line (codes "none")
taken_line (Some note) = note_line note

-- all notes, the oldest first
abbrev pub listed : List Note → List ℕ
listed notes = flat_map note_line notes
