use Rattle.std.proofs.Common.{◌∙◌, ap}
use Rattle.gem_tables.specs.declared.firing.Firing.{Firing}
use Rattle.gem_model.specs.Machines.{row_starts}
use Rattle.core_shop.proofs.signals.transfer_starts.Goals as goal

pub returns : goal.returns
returns c = c.row_starts.ensures ∙ ap (λ (x : Firing). row_starts c.args.plant.now x) c.at_port.ensures
