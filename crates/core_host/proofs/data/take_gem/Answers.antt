use Rattle.std.proofs.Common.{refl}
use Rattle.gem_model.specs.HostMessages.{Gem}
use Rattle.core_host.proofs.Listed.{done_listed}
use Rattle.core_host.proofs.data.take_gem.Goals as goal

pub finish-requires-clause-listed : goal.finish-requires-clause-listed
finish-requires-clause-listed c =
    done_listed c.in-Ok.done c.gem_done.new.plant (Gem c.args.message.now) c.args.plant.now _ c.in-Ok.ensures.done refl
