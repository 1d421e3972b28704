use Rattle.sim_modules.proofs.Bounds.{proceed_bounded}
use Rattle.sim_modules.proofs.lot.proceed_line.Goals as goal

pub host_line-requires : goal.host_line-requires
host_line-requires c = rw (c.in_ok-item.ensures, c.carrier_name.ensures) (proceed_bounded c.args.k c.port.result)
