use Rattle.std.proofs.Common.{refl, ◌∙◌}
use Rattle.core_state.proofs.Telling.{noted_is}
use Rattle.core_state.proofs.plant.Plant.note.Goals as goal

pub returns : goal.returns
returns c =
    c.in_ok-tell_event.ensures
    ∙ noted_is c.args.firing.row.table c.args.firing.row.row c.in-Some.ceid _ c.args.firing.object c.args.firing.online_before c.args.self.now c.in-Some.ensures (rw (c.from.ensures, c.from-2.ensures) refl)
