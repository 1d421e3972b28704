use Rattle.note_line.proofs.Falls.{least-falls, noted-left}
use Rattle.note_line.proofs.laws.the_line_comes_to_rest.Goals as goal

pub returns-clause-falls : goal.returns-clause-falls
returns-clause-falls c = least-falls

pub returns-clause-noted : goal.returns-clause-noted
returns-clause-noted c = noted-left
