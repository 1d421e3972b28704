use Rattle.std.proofs.Common.{rules, append_assoc}
use Rattle.notes_lines.proofs.print.print_note.Goals as goal

pub returns : goal.returns
returns c = simp append_assoc (search (rules, append_assoc))
