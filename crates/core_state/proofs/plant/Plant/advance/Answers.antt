use Rattle.std.proofs.Common.{subst, sym, ◌∙◌}
use Rattle.core_state.specs.Firing.{AreCreated}
use Rattle.core_state.proofs.Floors.{created_are}
use Rattle.core_state.proofs.plant.Plant.advance.Goals as goal

pub fire_created-requires : goal.fire_created-requires
fire_created-requires c =
    subst (AreCreated c.fire.new.self.floor) (sym (c.as_slice.ensures.value ∙ c.in_ok-created.ensures.created))
    (created_are c.args.self.now c.fire.new.self c.args.f c.requires.starts c.in_ok-created.ensures.fired)
