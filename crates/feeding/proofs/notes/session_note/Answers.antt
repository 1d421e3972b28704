use Rattle.std.proofs.Common.{refl}
use Rattle.feeding.proofs.notes.session_note.Goals as goal

pub returns : goal.returns
returns g c = λ read are. rw (c.unwrap_or.ensures, c.session_end.ensures, c.session_bytes.ensures, c.of.ensures, are c.args.session) refl
