use Rattle.gem_model.proofs.NotesSent.{opens-sends, oldest-sent, head-sent}
use Rattle.gem_model.proofs.laws.a_note_goes_out_as_it_opens.Goals as goal

pub returns-clause-opens : goal.returns-clause-opens
returns-clause-opens c = opens-sends

pub returns-clause-oldest : goal.returns-clause-oldest
returns-clause-oldest c = oldest-sent

pub returns-clause-head : goal.returns-clause-head
returns-clause-head c = head-sent
