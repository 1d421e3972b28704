use Rattle.core_state.proofs.NoteTexts.{event_short}
use Rattle.core_state.proofs.plant.Plant.event_text.Goals as goal

pub returns-clause-short : goal.returns-clause-short
returns-clause-short c = rw c.in_ok-text.ensures.text (event_short c.next_number-number.result c.args.ceid c.in_ok-reports.reports c.in_ok-reports.ensures.few.0 c.in_ok-reports.ensures.few.1)
