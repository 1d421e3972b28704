use Rattle.std.proofs.Common.{◌≡◌, Some, ap, option_map}
use Rattle.note_line.specs.declared.fate.Told.{Told}
use Rattle.note_line.specs.declared.fate.Fate.TheVariants.{Open, Answered}
use Rattle.note_line.specs.Line.{fate_of}
use Rattle.note_line.proofs.Numbers.{told_of-last, fate_of-with_fate}
use Rattle.note_line.proofs.Rows.{open_is_open}
use Rattle.state_charts.proofs.Fates.{note_listed}
use Rattle.state_charts.proofs.Examples.{fates_of_rows}
use Rattle.state_charts.proofs.laws.what_becomes_of_a_note_is_that_of_table_3.Goals as goal

pub returns-clause-each : goal.returns-clause-each
returns-clause-each c = fates_of_rows

pub returns-clause-all : goal.returns-clause-all
returns-clause-all c = note_listed

pub returns-clause-made : goal.returns-clause-made
returns-clause-made c = λ kind id text l. ap (option_map (λ (one : Told). one.fate)) (told_of-last l.told _)

pub returns-clause-open : goal.returns-clause-open
returns-clause-open c = λ l note v o. open_is_open l note o v

pub returns-clause-answered : goal.returns-clause-answered
returns-clause-answered c = λ l note v o. rw o (fate_of-with_fate note.number Answered l.told Open (open_is_open l note o v))
