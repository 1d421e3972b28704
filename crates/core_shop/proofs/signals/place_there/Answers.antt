use Rattle.std.proofs.Common.{[], ◌∷◌, ◌∙◌, ap}
use Rattle.gem_tables.specs.Table.{firing}
use Rattle.gem_tables.specs.declared.firing.Firing.{Firing}
use Rattle.gem_model.specs.State.{State}
use Rattle.gem_model.specs.Fire.{fire_listed}
use Rattle.core_shop.proofs.signals.place_there.Goals as goal

pub returns : goal.returns
returns c =
    c.in_ok-fire_listed.ensures
    ∙ ap (λ (x : Firing). fire_listed (x ∷ []) c.write_arrival.new.self) c.at_port.ensures
    ∙ ap (λ (g : State). fire_listed (firing 4 c.args.port.0 3 ∷ []) g) c.write_arrival.ensures
