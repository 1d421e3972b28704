use Rattle.std.proofs.Common.{refl}
use Rattle.notes_top.proofs.running.notes.Goals as goal

pub returns-clause-ran : goal.returns-clause-ran
returns-clause-ran g c = rw c.into_disk.ensures (c.run-kept.ensures.ran c.args.disk refl)
