use Rattle.std.proofs.Common.{refl}
use Rattle.core_state.proofs.plant.Plant.note_event.Goals as goal

pub returns : goal.returns
returns c = rw (c.in_ok-add.ensures.ok, c.in_ok-text.ensures.text, ← c.self.view_is) refl
