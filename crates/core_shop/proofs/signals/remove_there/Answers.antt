use Rattle.std.proofs.Common.{[], ◌∷◌, ◌∙◌, ap}
use Rattle.gem_tables.specs.Table.{firing}
use Rattle.gem_tables.specs.declared.firing.Firing.{Firing}
use Rattle.gem_model.specs.Fire.{fire_listed}
use Rattle.core_shop.proofs.signals.remove_there.Goals as goal

pub returns : goal.returns
returns c =
    c.in_ok-fire_listed.ensures
    ∙ ap (λ (x : Firing). fire_listed (x ∷ c.at_port-2.result ∷ []) c.args.plant.now) c.at_port.ensures
    ∙ ap (λ (y : Firing). fire_listed (firing 4 c.args.port.0 5 ∷ y ∷ []) c.args.plant.now) c.at_port-2.ensures
