use Rattle.std.proofs.Common.{refl}
use Rattle.message_model.specs.ShopPrimaries.{said}
use Rattle.gem_model.specs.HostMessages.{Shop}
use Rattle.core_host.proofs.Listed.{done_listed}
use Rattle.core_host.proofs.data.take_shop.Goals as goal

pub finish-requires-clause-listed : goal.finish-requires-clause-listed
finish-requires-clause-listed c =
    done_listed c.in-Ok.done c.shop_done.new.plant (Shop (said c.args.message.now)) c.args.plant.now _ c.in-Ok.ensures.done refl
