use Rattle.note_line.proofs.Rows.{noted_standing}
use Rattle.note_line.proofs.Standing.{row-same, answered-same, kinds-same}
use Rattle.note_line.proofs.laws.a_note_stays_as_it_was_made.Goals as goal

pub returns-clause-rows : goal.returns-clause-rows
returns-clause-rows c = row-same

pub returns-clause-answered : goal.returns-clause-answered
returns-clause-answered c = answered-same

pub returns-clause-kinds : goal.returns-clause-kinds
returns-clause-kinds c = kinds-same

pub returns-clause-noted : goal.returns-clause-noted
returns-clause-noted c = noted_standing
